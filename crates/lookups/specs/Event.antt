-- What a search for an event finds among loaded lines.
use Rattle.std.specs.Prelude.{ℕ, List, ◌≡◌, Option, option_map}
use Rattle.sheet.specs.Scratch.{item_count}
use Rattle.rules.specs.Text.{Name, first_named}
use Rattle.rules.specs.Ast.{Event}
use Rattle.rules.specs.Model.{event_named}
use Rattle.rules.specs.Standing.{node_name, nodes_at, event_at, model_in}
use Rattle.lookups.specs.Found.{of_kind, found_node, FoundKind}
use Rattle.grammar.specs.Kinds as kinds

unfoldable pub found_event : List ℕ → Option ℕ → Option Event
found_event s r = option_map (event_at s) r

-- r is the first event of the name x, and its line is that of the record
pub record EventNamed (s S : List ℕ) (x : Name) (r : Option ℕ) : Type 0 where
  pub found : found_event s r ≡ event_named (model_in s) x
  pub node : found_node s r ≡ first_named node_name x (of_kind kinds.event (nodes_at s (item_count S 0) 1))
  pub kind : FoundKind S kinds.event r
