-- The first event of a name. Assumes nothing.
use mathlib.Core.Path.{◌≡◌, refl, sym, ◌∙◌}
use mathlib.Core.List.{List, [], ◌∷◌, ◌++◌, map}
use mathlib.Core.Bool.{Bool, true, false, cond, ◌&&◌, and-eq-true_iff}
use Prim.Native.Nat.{ℕ, ◌<◌, ◌≤◌}
use native.Mathlib.Omega.{arith}
use lib.Dec.{eqb}
use borrow.Author.Tests.{eqb-true}
use Rattle.std.specs.List.{find}
use Rattle.std.specs.Prelude.{Option, Some, None, option_map}
use Rattle.std.proofs.lemmas.Iterator.Adapters.{option_map_id}
use Rattle.text.specs.Text.{same}
use Rattle.grammar.specs.Grammar as grammar
use Rattle.sheet.specs.Scratch.{kind_at, name_at, item_count}
use Rattle.sheet.proofs.RecordLines.{record_lines}
use Rattle.sheet.specs.Tree.{Node, node}
use Rattle.rules.specs.Text.{Name, first_named}
use Rattle.rules.specs.Ast.{Event, item_of, event_of}
use Rattle.rules.specs.Model.{item_model, joined, build, event_named}
use Rattle.rules.specs.Standing.{node_name, node_at, event_at, Loaded, Here}
use Rattle.rules.proofs.Parts.{stop, ◌also◌, pick}
use Rattle.rules.proofs.Rows.{records, by_row}
use Rattle.rules.proofs.Standing.{stands}
use Rattle.lookups.specs.Found.{node_kind, of_kind, found_node, FoundKind}
use Rattle.lookups.proofs.Fields.{items_at}
use Rattle.lookups.specs.Event.{found_event, EventNamed}
use Rattle.grammar.specs.Kinds as kinds

-- ------------------------------------------------------------ item by item

abbrev event_name : Event → Name
event_name e = e.name

item_events : (t : Node) → kinds.state ≤ node_kind t → node_kind t < kinds.field → (item_model (item_of t)).events ≡ cond (eqb (node_kind t) kinds.event) (event_of t ∷ []) []
unfolding node_kind item_model item_of event_of
item_events (node i l ps) a b =
    pick {P = λ k. l.kind ≡ k → (item_model (item_of (node i l ps))).events ≡ cond (eqb l.kind kinds.event) (event_of (node i l ps) ∷ []) []} {i = kinds.state} {n = 5} l.kind
    ((λ e. rw e refl) also (λ e. rw e refl) also (λ e. rw e refl) also (λ e. rw e refl) also (λ e. rw e refl) also stop)
    a b refl

-- an event, or none, before others
first_event : (x : Name) (es : List Event) (t : Node) (b : Bool)
    → first_named event_name x (cond b (event_of t ∷ []) [] ++ es) ≡ cond (b && same x (node_name t)) (Some (event_of t)) (first_named event_name x es)
unfolding first_named event_of node_name
first_event x es (node i l ps) true = by_cases (same x l.name) refl
  where
    by_cases : (c : Bool) → same x l.name ≡ c
        → first_named event_name x (event_of (node i l ps) ∷ es) ≡ cond c (Some (event_of (node i l ps))) (first_named event_name x es)
    by_cases true e = rw (first_named, e) refl
    by_cases false e = rw (first_named, e) refl
first_event x es t false = refl

-- the same of records
first_node : (x : Name) (ts : List Node) (t : Node)
    → first_named node_name x (of_kind kinds.event (t ∷ ts)) ≡ cond (eqb (node_kind t) kinds.event && same x (node_name t)) (Some t) (first_named node_name x (of_kind kinds.event ts))
unfolding first_named of_kind
first_node x ts t = by_cases (eqb (node_kind t) kinds.event) (same x (node_name t)) refl refl
  where
    by_cases : (b c : Bool) → eqb (node_kind t) kinds.event ≡ b → same x (node_name t) ≡ c
        → first_named node_name x (of_kind kinds.event (t ∷ ts)) ≡ cond (b && c) (Some t) (first_named node_name x (of_kind kinds.event ts))
    by_cases false c e f = rw (of_kind, e) refl
    by_cases true true e f = rw (of_kind, e, first_named, f) refl
    by_cases true false e f = rw (of_kind, e, first_named, f) refl

-- line i is an event of the name x
abbrev pub event_here : (s S : List ℕ) → Name → ℕ → Bool
event_here s S x i = eqb (kind_at S i) kinds.event && same x (name_at s S i)

-- r is the first event of the name x among items
record FirstEvent (s S : List ℕ) (x : Name) (ts : List Node) (r : Option ℕ) : Type 0 where
  found : found_event s r ≡ first_named event_name x (build (map item_of ts)).events
  node : found_node s r ≡ first_named node_name x (of_kind kinds.event ts)
  kind : FoundKind S kinds.event r

module _ (s S : List ℕ) (x : Name) (d : Loaded s S) where
  no_item : FirstEvent s S x [] None
  unfolding build of_kind first_named found_event found_node
  no_item = record { found = refl; node = refl; kind = tt }

  module _ (at : ℕ) (item : Here S grammar.Item at) (ts : List Node) where
    here : (node_kind (node_at s at) ≡ kind_at S at) × (node_name (node_at s at) ≡ name_at s S at)
    unfolding node_kind node_name
    here = let z = stands d at item.within in rw z.here (sym z.says.kind, sym z.spells.name)

    told : first_named event_name x (build (map item_of (node_at s at ∷ ts))).events ≡ cond (event_here s S x at) (Some (event_at s at)) (first_named event_name x (build (map item_of ts)).events)
    unfolding build joined event_at
    told =
        let first : (item_model (item_of (node_at s at))).events ≡ cond (eqb (node_kind (node_at s at)) kinds.event) (event_of (node_at s at) ∷ []) [] =
        item_events (node_at s at) (omega (arith, here.0, item.kind.0)) (omega (arith, here.0, item.kind.1)) in
        rw (first, first_event x (build (map item_of ts)).events (node_at s at) (eqb (node_kind (node_at s at)) kinds.event), here.0, here.1) refl

    told_node : first_named node_name x (of_kind kinds.event (node_at s at ∷ ts)) ≡ cond (event_here s S x at) (Some (node_at s at)) (first_named node_name x (of_kind kinds.event ts))
    told_node = rw (first_node x ts (node_at s at), here.0, here.1) refl

    next_item : (is : List ℕ) → FirstEvent s S x ts (find (event_here s S x) is) → FirstEvent s S x (node_at s at ∷ ts) (find (event_here s S x) (at ∷ is))
    unfolding found_event found_node
    next_item is z = by_cases (event_here s S x at) refl
      where
        by_cases : (b : Bool) → event_here s S x at ≡ b → FirstEvent s S x (node_at s at ∷ ts) (cond b (Some at) (find (event_here s S x) is))
        by_cases true e =
            record {
              found = sym (told ∙ rw e refl);
              node = sym (told_node ∙ rw e refl);
              kind = (item.within, eqb-true (kind_at S at) kinds.event ((and-eq-true_iff (eqb (kind_at S at) kinds.event) (same x (name_at s S at))).0 e).0);
            }
        by_cases false e = record { found = z.found ∙ sym (told ∙ rw e refl); node = z.node ∙ sym (told_node ∙ rw e refl); kind = z.kind }

  pub events_found : (r : Option ℕ) → option_map (λ i. i) r ≡ find (event_here s S x) (record_lines S (item_count S 0) 1) → EventNamed s S x r
  unfolding event_named
  events_found r e =
      let q = items_at d in
      let z = by_row records d (λ ts is. FirstEvent s S x ts (find (event_here s S x) is)) no_item next_item (item_count S 0) q.1 in
      rw (sym (option_map_id r) ∙ e) (record { found = z.found ∙ rw q.0 refl; node = z.node; kind = z.kind })
