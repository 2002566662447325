-- What `check` answers and leaves on a table of zeros is what the rules say that type afresh at every mention. Assumes nothing.
use mathlib.Core.Path.{◌≡◌, refl, sym, ap, ◌∙◌}
use mathlib.Core.List.{List}
use Prim.Native.Nat.{ℕ}
use lib.ListN.{length, replicate}
use Rattle.std.specs.Prelude.{Result}
use Rattle.sheet.specs.Line.{Line}
use Rattle.sheet.specs.Load.{load, lines}
use Rattle.sheet.proofs.Loaded.{whole}
use Rattle.rules.specs.Asking.{fresh}
use Rattle.rules.specs.Kept.{Table, marks}
use Rattle.rules.specs.Check.{check}
use Rattle.rules.specs.Standing.{model_in}
use Rattle.sheet.specs.Loaded.{read_lines, lines_in}
use Rattle.rules.specs.Verdict.{model_of}
use Rattle.rules.proofs.Checked.{sheet_kept}
use Rattle.refusals.specs.Refusal.{done_of}
use Rattle.typing.specs.Asks.{Does}
use Rattle.refusals.specs.declared.refusal.Refusal.{Refusal}

model_read : (s S : List ℕ) (types : ℕ) (ls : List Line) → load s types (length S) ≡ lines ls → model_in s ≡ model_of ls
unfolding model_in lines_in read_lines
model_read s S types ls e = rw (whole s types S ls e).1 refl

pub afresh : (s S : List ℕ) (types : ℕ) (ls : List Line) (r : Result Unit Refusal) (U : Table) → load s types (length S) ≡ lines ls
    → Does s (check (model_in s)) (replicate (length ls) 0) r U
    → ((fresh (check (model_in s))).res ≡ done_of s r) × (marks (replicate (length ls) 0) (fresh (check (model_in s))).log ≡ U)
afresh s S types ls r U h d =
    let k = rw (← model_read s S types ls h) at (sheet_kept s types (length S) ls h) in
    (sym k.0 ∙ ap (λ o. o.res) d.gives, sym k.1 ∙ ap (λ o. o.table) d.gives)
