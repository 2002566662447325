-- What a test of a record's kind tells, `LoadedSheet::is` or `is_kind`. Assumes nothing.
use mathlib.Core.Logic.{◌≢◌}
use mathlib.Core.Path.{◌≡◌, sym, ◌∙◌}
use mathlib.Core.Bool.{Bool, true, false}
use mathlib.Core.List.{List}
use Prim.Native.Nat.{ℕ}
use lib.Dec.{eqb}
use borrow.Author.Rules.{rules}
use borrow.Author.Tests.{eqb-true, eqb-false}
use Rattle.sheet.specs.Scratch.{kind_at}

module _ (S : List ℕ) (i k : ℕ) (b : Bool) (e : b ≡ eqb (kind_at S i) k) where
  pub is_kind : b ≡ true → kind_at S i ≡ k
  is_kind h = eqb-true (kind_at S i) k (sym e ∙ h)

  pub not_kind : b ≡ false → kind_at S i ≢ k
  not_kind h = eqb-false (kind_at S i) k (sym e ∙ h)

pub ruleset tested = (rules, is_kind, not_kind)
