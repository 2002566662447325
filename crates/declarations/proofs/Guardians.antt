-- Guardian sets over loaded lines. Assumes nothing.
use mathlib.Core.Path.{◌≡◌, refl, ◌∙◌}
use mathlib.Core.Logic.{◌≢◌}
use mathlib.Core.List.{List, ◌∷◌}
use mathlib.Core.Bool.{Bool, false, not, ◌||◌}
use Prim.Native.Nat.{ℕ, suc, ◌+◌, ◌-◌, ◌<◌}
use native.Mathlib.Numerals.{add-one}
use native.Mathlib.Omega.{arith}
use Rattle.std.specs.Prelude.{Result}
use Rattle.text.specs.Text.{bytes, same}
use Rattle.grammar.specs.Grammar as grammar
use Rattle.sheet.specs.Scratch.{name_at, kind_at, end_at, type_arg_count}
use Rattle.rules.specs.Text.{Name}
use Rattle.rules.specs.Ast.{Arg, args}
use Rattle.rules.specs.Types.{parse_u64}
use Rattle.rules.specs.Declarations.{members_of, guardian_fits, guardian_bound}
use Rattle.rules.specs.Standing.{type_at, Loaded, Here}
use Rattle.rules.proofs.Rows.{row_some, list_none, list_some}
use Rattle.rules.proofs.Standing.{row_first}
use Rattle.refusals.specs.Answers.{Answers, expected}
use Rattle.refusals.specs.Refusal.{refusal_of, done_of}
use Rattle.refusals.specs.declared.refusal.Refusal.TheVariants.{Guardian}
use Rattle.refusals.proofs.Answers.{expects}
use Rattle.lookups.proofs.Types.{named_word, args_at, arguments, by_kind, arg_of_kind, arg_told, args_here, args_row}
use Rattle.declarations.specs.Tests.{size_fits}
use Rattle.grammar.specs.Kinds as kinds
use Rattle.refusals.specs.declared.refusal.Refusal.{Refusal}

-- What `members_fit` meets: m arguments.
module _ (s S : List ℕ) (i m : ℕ) (d : Loaded s S) (h : Here S grammar.Ty i) (c : m ≡ type_arg_count S i) where
  pub no_members : m ≡ 0 → false ≡ size_fits (members_of (args (type_at s i)))
  unfolding size_fits members_of
  no_members e = rw (args_here s S i m d h c, list_none arguments s m (suc i) (omega arith)) refl

  module _ (e : m ≢ 0) where
    some : 0 < m
    some = omega arith

    here : Here S grammar.Arg (suc i)
    here = row_first (row_some some (args_row s S i m d h c))

    abbrev others : List Arg
    others = args_at s (m - 1) (end_at S (suc i))

    first : args (type_at s i) ≡ arg_of_kind s S (suc i) (kind_at S (suc i)) ∷ others
    first =
        args_here s S i m d h c
        ∙ list_some arguments d some (args_row s S i m d h c)
        ∙ rw (arg_told s S (suc i) (kind_at S (suc i)) d refl) refl

    pub other_members : kind_at S (i + 1) ≢ kinds.num → false ≡ size_fits (members_of (args (type_at s i)))
    unfolding size_fits members_of
    other_members g =
        rw first
        (by_kind (λ k. k ≢ kinds.num → false ≡ size_fits (members_of (arg_of_kind s S (suc i) k ∷ others))) (kind_at S (suc i)) here refl
        (λ g. refl) (λ g. absurd (g refl)) (λ g. refl) (rw (← add-one i) g))

    pub num_members : (x : Name) (r : Bool) → kind_at S (i + 1) ≡ kinds.num → x ≡ name_at s S (i + 1) → r ≡ size_fits (parse_u64 x) → r ≡ size_fits (members_of (args (type_at s i)))
    unfolding members_of
    num_members x r g y z = let k : kind_at S (suc i) ≡ kinds.num = rw (add-one i) at g in z ∙ rw (first, k, y, add-one) refl

pub guardian_fits_lem : (s S : List ℕ) (i : ℕ) (x : Name) (w m : Bool) → Loaded s S → x ≡ name_at s S i → w ≡ same x (bytes "GuardianSet")
    → m ≡ size_fits (members_of (args (type_at s i))) → (not w || m) ≡ guardian_fits (type_at s i)
unfolding guardian_fits size_fits
guardian_fits_lem s S i x w m d e f g = rw (named_word s S i x "GuardianSet" w d e f, g) refl

pub guardian_bound_lem : (s : List ℕ) (i : ℕ) (b : Bool) (r : Result Unit Refusal) → b ≡ guardian_fits (type_at s i) → r ≡ expected b (Guardian i) → Answers (guardian_bound (type_at s i)) (done_of s r)
unfolding guardian_bound refusal_of
guardian_bound_lem s i b r e f = rw (← e) (expects s b (Guardian i) r f)
