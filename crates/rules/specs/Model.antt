-- `Model::build`: of model.rs only what the rules read, and the contract's items parted by their kind.
use Rattle.std.specs.Prelude.{List, [], ◌∷◌, ◌++◌, Bool, Option, Some, None}
use Rattle.rules.specs.Text.{Name, is, first_named, last_named}
use Rattle.rules.specs.Ast.{Field, Param, Event, Entry, Expr, Stmt, Item, state, event, invariant, genesis, entry, type_name}

pub record Model : Type 0 where
  pub fields : List Field
  pub events : List Event
  pub entries : List Entry
  pub invariants : List Expr
  pub genesis : List Stmt

-- what one item adds
unfoldable pub item_model : Item → Model
item_model (state fs) = record { fields = fs; events = []; entries = []; invariants = []; genesis = [] }
item_model (event e) = record { fields = []; events = e ∷ []; entries = []; invariants = []; genesis = [] }
item_model (invariant e) = record { fields = []; events = []; entries = []; invariants = e ∷ []; genesis = [] }
item_model (genesis ss) = record { fields = []; events = []; entries = []; invariants = []; genesis = ss }
item_model (entry e) = record { fields = []; events = []; entries = e ∷ []; invariants = []; genesis = [] }

unfoldable pub joined : Model → Model → Model
joined m n =
    record {
      fields = m.fields ++ n.fields;
      events = m.events ++ n.events;
      entries = m.entries ++ n.entries;
      invariants = m.invariants ++ n.invariants;
      genesis = m.genesis ++ n.genesis;
    }

unfoldable pub build : List Item → Model
build [] = record { fields = []; events = []; entries = []; invariants = []; genesis = [] }
build (i ∷ is') = joined (item_model i) (build is')

-- `model.state.get(name)`: the last field of the name
unfoldable pub field_named : Model → Name → Option Field
field_named m x = last_named (λ f. f.name) x m.fields

-- `model.state.values()`, in sheet order
unfoldable pub values : List Field → List Field
values [] = []
values (f ∷ fs) = elim (last_named (λ g. g.name) f.name fs) [ Some g ↦ values fs | None ↦ f ∷ values fs ]

-- an event is the first of its name
unfoldable pub event_named : Model → Name → Option Event
event_named m x = first_named (λ e. e.name) x m.events

unfoldable pub is_asset_param : Param → Bool
is_asset_param p = is (type_name p.ty) "Q_Asset"
