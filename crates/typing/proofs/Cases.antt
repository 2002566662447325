-- A sheet where the exception for `let`s (`stale`) holds. Assumes nothing.
use mathlib.Core.Path.{◌≡◌, refl, sym, ap, ◌∙◌}
use mathlib.Core.List.{List, [], ◌∷◌, ◌++◌}
use mathlib.Core.Bool.{false}
use Prim.Native.Nat.{ℕ, ◌*◌}
use native.Mathlib.Omega.{arith}
use lib.ListN.{take}
use Rattle.std.specs.Prelude.{Result}
use Rattle.text.specs.Text.{bytes}
use Rattle.grammar.specs.Grammar as grammar
use Rattle.sheet.specs.Load.{copies, load}
use Rattle.sheet.specs.Promise.{laid, scratch_from, scratch_after}
use Rattle.sheet.specs.Scratch.{cell, put, put_line, put_lines, kind_at, skip, closed, cells_per_line}
use Rattle.sheet.specs.Tree.{before}
use Rattle.rules.specs.Computed.{computed}
use Rattle.rules.specs.Asking.{ok}
use Rattle.rules.specs.declared.ty.Ty.{Ty}
use Rattle.rules.specs.declared.ty.Ty.TheVariants.{Int}
use Rattle.rules.specs.Kept.{Table, kept, ty_from}
use Rattle.rules.specs.Typing.{ty_of}
use Rattle.rules.specs.Standing.{model_in, drop_lines, trees_from, node_at, nodes_at, expr_at, Loaded, Here, stop, next}
use Rattle.sheet.specs.Loaded.{read_lines, lines_in}
use Rattle.rules.proofs.Standing.{by_load}
use Rattle.lookups.specs.Found.{node_kind, of_kind}
use Rattle.env.specs.Answers.{typed_of}
use Rattle.env.specs.Force.{local_of, named_end, lets, ends_in, params_in, env_of, InForce}
use Rattle.env.specs.declared.env.Env.{Env}
use Rattle.typing.specs.Asks.{Asks, Types}
use Rattle.rules.specs.Codes as codes
use Rattle.refusals.specs.declared.refusal.Refusal.{Refusal}

-- `guard x` stands before `let x = 1`, and both statements are bound. Line 3, the `id`, holds Unknown, and the `let`'s value Int.
abbrev guarded : List ℕ
guarded = bytes "contract,1" ++ (10 ∷ bytes "entry,0,0,2") ++ (10 ∷ bytes "guard") ++ (10 ∷ bytes "id,1,x") ++ (10 ∷ bytes "let,x") ++ (10 ∷ bytes "int,2,1") ++ (10 ∷ [])

-- the sheet's lines, as the reader leaves them in a scratch of zeros
abbrev guarded_lines : List ℕ
guarded_lines = take (cells_per_line * 6) (scratch_after guarded 6 (copies (cells_per_line * 6) 0))

abbrev both_bound : Env
both_bound = record { params = 0; count = 0; body = 2; bound = 2; next = 6; genesis = false }

abbrev guarded_table : Table
guarded_table = 0 ∷ 0 ∷ 0 ∷ codes.unknown ∷ 0 ∷ codes.int ∷ []

-- `ty_of` may be asked of the `id` ..
pub guarded_asks : Loaded guarded guarded_lines × InForce guarded_lines both_bound × Asks guarded_lines guarded_table 3
unfolding computed read_lines scratch_after scratch_from laid closed put_lines put put_line cell kind_at skip
guarded_asks =
    let d : Loaded guarded guarded_lines = by_load guarded 6 (copies (cells_per_line * 6) 0) (read_lines (load guarded 6 (cells_per_line * 6))) refl in
    let one : Here guarded_lines grammar.Stmt 2 = record { within = omega arith; kind = (omega arith, omega arith); after = omega arith } in
    let other : Here guarded_lines grammar.Stmt 4 = record { within = omega arith; kind = (omega arith, omega arith); after = omega arith } in (
      d,
      record { params = stop; locals = next {i = 2} one (next {i = 4} other stop); next = refl },
      record { room = omega arith; here = record { within = omega arith; kind = (omega arith, omega arith); after = omega arith } },
    )

again_int : kept (ty_of (env_of guarded guarded_table both_bound) (expr_at guarded 3)) guarded_table ≡ record { res = ok Int; table = guarded_table }
unfolding computed env_of local_of named_end lets ends_in params_in of_kind node_kind read_lines lines_in model_in drop_lines before trees_from node_at nodes_at expr_at ty_from
again_int = refl

-- .. and answers Int: it is typed again, and the line keeps Unknown
pub guarded_again : (r : Result Ty Refusal) (U : Table) → Types guarded (ty_of (env_of guarded guarded_table both_bound) (expr_at guarded 3)) guarded_table r U → (typed_of guarded r ≡ ok Int) × (U ≡ guarded_table)
guarded_again r U k = let e = sym k.gives ∙ again_int in (ap (λ o. o.res) e, ap (λ o. o.table) e)
