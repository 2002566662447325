use mathlib.Core.Path.{◌≡◌, refl, ◌∙◌}
use mathlib.Core.Bool.{Bool, true, false}
use mathlib.Core.List.{List}
use Prim.Native.Nat.{ℕ}
use lib.Dec.{eqb}
use borrow.Author.Rules.{rules}
use Rattle.text.specs.Text.{all}
use Rattle.sheet.specs.Scratch.{kind_at, name_at}
use Rattle.rules.specs.Types.{zero_digit, is_zero_literal}
use Rattle.rules.specs.Standing.{expr_at, Loaded, Here}
use Rattle.rules.proofs.Exprs.{int_at}
use Rattle.grammar.specs.Grammar as grammar
use Rattle.rules.proofs.Standing.{loaded_sheet}
use Rattle.grammar.specs.Kinds as kinds
use Rattle.lookups.proofs.ty.is_zero_literal.Goals as goal

module _ (s S : List ℕ) (i : ℕ) (d : Loaded s S) (h : Here S grammar.Expr i) (t : Bool) (e : t ≡ eqb (kind_at S i) kinds.int) where
  other : t ≡ false → false ≡ is_zero_literal (expr_at s i)
  unfolding is_zero_literal
  other q = rw (is_zero_literal, int_at d h, ← e, q) refl

  literal : (x : List ℕ) (r : Bool) → t ≡ true → x ≡ name_at s S i → r ≡ all zero_digit x → r ≡ is_zero_literal (expr_at s i)
  unfolding is_zero_literal
  literal x r q n f = f ∙ rw (is_zero_literal, int_at d h, ← e, q, ← n) refl

pub returns-then-not-is : goal.returns-then-not-is
returns-then-not-is c = search (loaded_sheet, rules, other)

pub returns : goal.returns
returns c = search (loaded_sheet, rules, literal)
