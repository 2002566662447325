-- The number of the literal at a line. Assumes nothing.
use mathlib.Core.Path.{◌≡◌, refl}
use mathlib.Core.List.{List}
use mathlib.Core.Bool.{cond}
use Prim.Native.Nat.{ℕ}
use lib.Dec.{eqb}
use Rattle.sheet.specs.Scratch.{kind_at, name_at}
use Rattle.rules.specs.Standing.{node_at, Loaded}
use Rattle.rules.proofs.Places.{there_or_not, no_kind_lem, named_at_lem}
use Rattle.rules.proofs.Standing.{stands, beyond}
use Rattle.refusals.specs.Refusal.{is_literal, number_in, literal_at}
use Rattle.grammar.specs.Kinds as kinds

module _ {s S : List ℕ} (d : Loaded s S) (i : ℕ) where
  by_kind : is_literal (node_at s i) ≡ eqb (kind_at S i) kinds.int
  unfolding is_literal
  by_kind =
      there_or_not d i
      (λ w. let t = stands d i w in rw (t.here, t.says.kind) refl)
      (λ w. rw (beyond d i w, no_kind_lem S i w) refl)

  pub literal_at_lem : literal_at s i ≡ cond (eqb (kind_at S i) kinds.int) (number_in (name_at s S i)) 0
  unfolding literal_at
  literal_at_lem = rw (by_kind, named_at_lem d i) refl
