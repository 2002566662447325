use mathlib.Core.Path.{◌≡◌, sym, ap, ◌∙◌}
use mathlib.Core.Bool.{Bool, true}
use mathlib.Core.List.{List}
use Prim.Native.Nat.{ℕ}
use Rattle.text.specs.Text.{same}
use Rattle.text.proofs.Words.{same-is}
use Rattle.rules.specs.declared.ty.Ty.{Ty}
use Rattle.rules.specs.Types.{ty_of_name}
use borrow.Author.Rules.{rules}
use Rattle.lookups.proofs.ty.ty_by.Goals as goal

by_word : (x w : List ℕ) (t : Ty) (b : Bool) → t ≡ ty_of_name w → b ≡ same x w → b ≡ true → t ≡ ty_of_name x
by_word x w t b e f g = e ∙ ap ty_of_name (sym (same-is x w (sym f ∙ g)))

pub returns-then-is_word : goal.returns-then-is_word
returns-then-is_word c = search (rules, by_word)
