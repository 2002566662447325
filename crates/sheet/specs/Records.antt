-- What the iterator over records gives.
use Rattle.std.specs.Prelude.{ℕ, suc, ◌≡◌, Option, None, Some}
use Rattle.sheet.specs.Scratch.{end_at}
use Rattle.sheet.specs.declared.records.Records.{Records}

-- a record is at line i, and t are those behind it
pub record Steps (r : Records) (i : ℕ) (t : Records) : Type 0 where
  pub left : r.left ≡ suc t.left
  pub here : i ≡ r.at
  pub behind : t.at ≡ end_at r.lines.now r.at
  pub lines : t.lines.now ≡ r.lines.now

-- a call of `next` on r answers o, and leaves t
abbrev pub NextOf : Records → Option ℕ → Records → Type 0
NextOf r None t = (r.left ≡ 0) × (t ≡ r)
NextOf r (Some i) t = Steps r i t
