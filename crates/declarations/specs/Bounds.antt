-- The bounds of state fields, field by field.
use Rattle.std.specs.Prelude.{ℕ, suc, List, [], ◌∷◌, ◌++◌, map, not, ◌≡◌, is_some}
use Rattle.grammar.specs.Grammar as grammar
use Rattle.sheet.specs.Scratch.{end_at}
use Rattle.sheet.specs.declared.records.Records.{Records}
use Rattle.rules.specs.Text.{last_named}
use Rattle.rules.specs.Ast.{Field, field_of}
use Rattle.rules.specs.Asking.{Rule, ret, ◌>>◌, provided}
use Rattle.rules.specs.Declarations.{guardian_bound}
use Rattle.rules.specs.Standing.{nodes_at, Row}
use Rattle.lookups.specs.Found.{model_at}

-- the bound of a field, where none of the later ones has its name
unfoldable pub bound_if_last : Field → (later : List Field) → Rule Unit
bound_if_last f later = provided (not (is_some (last_named (λ g. g.name) f.name later))) (guardian_bound f.ty)

-- ... of fields, behind which are the later ones
unfoldable pub bounds_of : List Field → (later : List Field) → Rule Unit
bounds_of [] later = ret tt
bounds_of (f ∷ fs) later = bound_if_last f (fs ++ later) >> bounds_of fs later

-- the fields that r goes over, and those of the items that q goes over
unfoldable pub fields_left : List ℕ → (r q : Records) → List Field
fields_left s r q = map field_of (nodes_at s r.left r.at) ++ (model_at s q.left q.at).fields

-- they stand there
pub record FieldsLeft (S : List ℕ) (r q : Records) : Type 0 where
  pub fields : Row S grammar.Field r.left r.at
  pub items : Row S grammar.Item q.left q.at

-- ... behind a field at line i
pub record FieldBefore (S : List ℕ) (i : ℕ) (r q : Records) : Type 0 where
  pub fields : Row S grammar.Field (suc r.left) i
  pub items : Row S grammar.Item q.left q.at
  pub behind : r.at ≡ end_at S i

-- an item stands at line i, and behind it those that q goes over
pub record ItemBefore (S : List ℕ) (i : ℕ) (q : Records) : Type 0 where
  pub items : Row S grammar.Item (suc q.left) i
  pub behind : q.at ≡ end_at S i
