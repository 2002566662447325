-- Two lines that say the same record.
use Rattle.std.specs.Prelude.{ℕ, ◌≡◌, ◌⊎◌, List, [], ◌∷◌}
use Rattle.text.specs.Text.{bytes}
use Rattle.sheet.specs.Line.{Line, fields_of}
use Rattle.grammar.specs.Kinds as kinds

-- Wherever they stand. Where texts are free, those of two `int` records may differ.
pub record SameRecord (Free : Type 0) (l k : Line) : Type 0 where
  pub kind : l.kind ≡ k.kind
  pub op : l.op ≡ k.op
  pub spans : l.spans ≡ k.spans
  pub parts : l.parts ≡ k.parts
  pub name : (l.name ≡ k.name) ⊎ (Free × (l.kind ≡ kinds.int))

-- the same record, its text too
abbrev pub SameLine : Line → Line → Type 0
SameLine = SameRecord ⊥

-- the same but for the text of an `int`
abbrev pub SameButText : Line → Line → Type 0
SameButText = SameRecord Unit

-- the bytes of two such lines: the same, or two `int` records with the same SPAN
pub data LineSameButText : List ℕ → List ℕ → Type 0 where
  same_bytes : {l : List ℕ} → LineSameButText l l
  int_texts : {l k : List ℕ} (span t u : List ℕ) → fields_of l ≡ bytes "int" ∷ span ∷ t ∷ [] → fields_of k ≡ bytes "int" ∷ span ∷ u ∷ [] → LineSameButText l k
