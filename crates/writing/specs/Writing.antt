-- A message written piece by piece.
use Rattle.std.specs.Prelude.{ℕ, zero, suc, ◌+◌, List, [], ◌∷◌, cond, ◌≡◌, leb, length}
use Rattle.writing.specs.declared.write.Message.{Message}

-- the largest usize, which is more bytes than a buffer has
abbrev pub MOST : ℕ
MOST = 18446744073709551615

-- a length as it is told: lengths above MOST are told as MOST
unfoldable pub told_as : ℕ → ℕ
told_as n = cond (leb n MOST) n MOST

-- the buffer with the text over its bytes from `at` on; what goes beyond the buffer's end is cut off
unfoldable pub overlay : (buffer : List ℕ) (at : ℕ) (text : List ℕ) → List ℕ
overlay [] at text = []
overlay (b ∷ bs) (suc at) text = b ∷ overlay bs at text
overlay (b ∷ bs) zero [] = b ∷ bs
overlay (b ∷ bs) zero (c ∷ cs) = c ∷ overlay bs zero cs

-- What a function does that adds the text to the message M, which is N then: in the same buffer, as far as it has room, and with the length of both.
pub record Adds (text : List ℕ) (M N : Message) : Type 0 where
  pub told : N.length ≡ told_as (M.length + length text)
  pub buffer : N.buffer.now ≡ overlay M.buffer.now M.length text
  pub lent : N.buffer.ghost_name ≡ M.buffer.ghost_name
