-- What a search by name finds among loaded lines.
use Rattle.std.specs.Option.{option_or}
use Rattle.std.specs.Prelude.{ℕ, ◌<◌, true, false, List, [], ◌∷◌, ◌++◌, map, ◌≡◌, eqb, Option, Some, None, option_map}
use Rattle.grammar.specs.Grammar.{Sort}
use Rattle.sheet.specs.Scratch.{kind_at, line_count, item_count}
use Rattle.sheet.specs.Tree.{Node, node}
use Rattle.rules.specs.Text.{Name, last_named}
use Rattle.rules.specs.Ast.{Field, item_of, nodes}
use Rattle.rules.specs.Model.{Model, build, field_named}
use Rattle.rules.specs.Standing.{node_name, node_at, nodes_at, field_at, model_in, Row}
use Rattle.grammar.specs.Kinds as kinds

unfoldable pub node_kind : Node → ℕ
node_kind (node i l ps) = l.kind

unfoldable pub of_kind : ℕ → List Node → List Node
of_kind k [] = []
of_kind k (t ∷ ts) = elim (eqb (node_kind t) k) [ true ↦ t ∷ of_kind k ts | false ↦ of_kind k ts ]

unfoldable pub found_node : List ℕ → Option ℕ → Option Node
found_node s r = option_map (node_at s) r

unfoldable pub found_field : List ℕ → Option ℕ → Option Field
found_field s r = option_map (field_at s) r

-- m records stand one behind another from line i on
pub record Stretch (S : List ℕ) (m i : ℕ) : Type 0 where
  pub sort : Sort
  pub row : Row S sort m i

-- the line found is one of kind k
abbrev pub FoundKind : List ℕ → ℕ → Option ℕ → Type 0
FoundKind S k (Some i) = (i < line_count S) × (kind_at S i ≡ k)
FoundKind S k None = Unit

-- r is the last record of kind k with the name x among m records from line i on
pub record Last (s S : List ℕ) (k : ℕ) (x : Name) (m i : ℕ) (r : Option ℕ) : Type 0 where
  pub found : found_node s r ≡ last_named node_name x (of_kind k (nodes_at s m i))
  pub kind : FoundKind S k r

-- the fields that an item declares
unfoldable pub item_fields : Node → List Node
item_fields (node i l ps) = elim (eqb l.kind kinds.state) [ true ↦ nodes ps | false ↦ [] ]

-- r is the last field of the name x of the item at line i, or else f
pub record Newest (s S : List ℕ) (x : Name) (i : ℕ) (f r : Option ℕ) : Type 0 where
  pub found : found_node s r ≡ option_or (last_named node_name x (item_fields (node_at s i))) (found_node s f)
  pub kind : FoundKind S kinds.field f → FoundKind S kinds.field r

-- the fields that items declare
abbrev pub all_fields : List Node → List Node
all_fields [] = []
all_fields (t ∷ ts) = item_fields t ++ all_fields ts

-- the model of m items, the first at line i
unfoldable pub model_at : List ℕ → ℕ → ℕ → Model
model_at s m i = build (map item_of (nodes_at s m i))

-- r is the last field of the name x that m items from line i on declare
pub record FieldsNamed (s S : List ℕ) (x : Name) (m i : ℕ) (r : Option ℕ) : Type 0 where
  pub found : found_field s r ≡ field_named (model_at s m i) x
  pub node : found_node s r ≡ last_named node_name x (all_fields (nodes_at s m i))
  pub kind : FoundKind S kinds.field r

-- r is the last state field of the name x, and its line is that of the record
pub record FieldNamed (s S : List ℕ) (x : Name) (r : Option ℕ) : Type 0 where
  pub found : found_field s r ≡ field_named (model_in s) x
  pub node : found_node s r ≡ last_named node_name x (all_fields (nodes_at s (item_count S 0) 1))
  pub kind : FoundKind S kinds.field r
