use mathlib.Core.Path.{◌≡◌, refl}
use mathlib.Core.List.{List}
use mathlib.Core.Bool.{Bool, ◌&&◌}
use Prim.Native.Nat.{ℕ, suc, ◌+◌}
use native.Mathlib.Numerals.{add-one}
use borrow.Author.Rules.{rules}
use Rattle.text.specs.Text.{same}
use Rattle.sheet.specs.Scratch.{name_at}
use Rattle.lookups.proofs.model.is_typed.Goals as goal

both : (s S x ty : List ℕ) (i : ℕ) (y z : List ℕ) (b c : Bool) → y ≡ name_at s S (i + 1) → b ≡ same y ty → z ≡ name_at s S i → c ≡ same x z → (b && c) ≡ (same (name_at s S (suc i)) ty && same x (name_at s S i))
both s S x ty i y z b c ey eb ez ec = rw (eb, ec, ey, ez, add-one i) refl

pub returns : goal.returns
returns c = search (rules, both)
