-- A literal's number in a message.
use Rattle.std.specs.Prelude.{ℕ, List, [], ◌∷◌, true, false, ◌≡◌, Some}
use Rattle.text.specs.Text.{all}
use Rattle.text.specs.Field.{plain}
use Rattle.rules.specs.Text.{digits}
use Rattle.rules.specs.Types.{no_underscores, parse_u128, zero_digit}
use Rattle.writing.specs.Writing.{Adds}
use Rattle.writing.specs.declared.write.Message.{Message}

-- the text from its first byte on that is no zero and no underscore
unfoldable pub counting : List ℕ → List ℕ
counting [] = []
counting (b ∷ bs) = elim (zero_digit b) [ true ↦ counting bs | false ↦ b ∷ bs ]

-- what is shown of a text that does not start with a zero: all but its underscores, or 0 where it is empty
unfoldable pub shown : List ℕ → List ℕ
shown [] = 48 ∷ []
shown (b ∷ bs) = no_underscores (b ∷ bs)

-- What a function does that adds a literal's text: its shown digits, which are those of its number where it has digits and underscores only and is a u128.
pub record AddsLiteral (text : List ℕ) (M N : Message) : Type 0 where
  pub always : Adds (shown (counting text)) M N
  pub number : (n : ℕ) → all (plain false) text ≡ true → parse_u128 text ≡ Some n → Adds (digits 39 n) M N
