-- What `check` does with the items of a kind: what each return and each call needs. Assumes nothing.
use mathlib.Core.Bool.{Bool, true, false}
use mathlib.Core.List.{◌++◌, List, [], ◌∷◌, map}
use mathlib.Core.Logic.{◌≢◌, ◌⊎◌, inl, inr}
use mathlib.Core.Path.{◌≡◌, refl, sym, ap, ◌∙◌}
use Prim.Native.Nat.{ℕ, suc, ◌+◌, ◌<◌, ◌≤◌}
use native.Mathlib.Numerals.{add-one}
use native.Mathlib.Omega.{arith}
use lib.Dec.{eqb}
use lib.ListN.{length}
use borrow.Author.Tests.{eq-eqb, ne_eqb}
use denote.Ref.{MutBor}
use Rattle.std.specs.Prelude.{Result, Ok, Err}
use Rattle.grammar.specs.Grammar as grammar
use Rattle.grammar.specs.Kinds as kinds
use Rattle.sheet.specs.Line.{most_lines}
use Rattle.sheet.specs.Records.{Steps}
use Rattle.sheet.specs.declared.records.Records.{Records}
use Rattle.sheet.specs.Scratch.{kind_at, end_at, skip, item_count, field_count, param_count, genesis_count, line_count}
use Rattle.sheet.specs.Tree.{Node, take_nodes}
use Rattle.rules.specs.Ast.{Param, Expr, Field, Stmt, Event, Entry, nodes, field_of, stmt_of, item_of, event_of, entry_of}
use Rattle.rules.specs.Standing.{field_at, stmt_at, stmts_at, param_at, next, node_at, nodes_at, expr_at, params_at, event_at, entry_at, model_in, Loaded, Here, Row, stop as none'}
use Rattle.rules.proofs.Rows.{Listed, params, stmts}
use Rattle.rules.proofs.Standing.{loaded_sheet, row_nth, Stands, stands, nodes_next, row_first}
use Rattle.rules.specs.Asking.{Rule, ◌>>=◌, for_each}
use Rattle.rules.specs.Kept.{Table, kept}
use Rattle.rules.specs.Model.{Model, item_model, joined, build}
use Rattle.rules.specs.Typing as typing
use Rattle.rules.specs.Statements.{expect_predicate}
use Rattle.rules.specs.Check.{param_types, check_field, check_genesis, check_event_param, check_entry_param, check_entry}
use Rattle.rules.proofs.Parts.{stop as end', ◌also◌, pick, parts}
use Rattle.rules.proofs.Records.{no_nodes, group, event_at_lem, entry_at_lem}
use Rattle.rules.proofs.Binding.{kept_unit, each_append}
use Rattle.refusals.specs.Answers.{Answers}
use Rattle.refusals.specs.Refusal.{done_of}
use Rattle.refusals.specs.declared.refusal.Refusal.{Refusal}
use Rattle.lookups.proofs.Fields.{items_at}
use Rattle.lookups.specs.Found.{node_kind, of_kind}
use Rattle.lookups.specs.Lines.{KindAt}
use Rattle.env.specs.Force.{env_of, params_in, lets, ends_in, new, in_genesis}
use Rattle.sheet.specs.declared.loaded_sheet.LoadedSheet.{LoadedSheet}
use Rattle.env.specs.declared.env.Env.{Env}
use Rattle.typing.proofs.Doing.{does_nothing, does_then, does_cut, asks_none}
use Rattle.typing.specs.Asks.{KindIn, Does}
use Rattle.statements.specs.Checked.{StmtIn}
use Rattle.typing.specs.Each.{Step, Post, Gives, GivesEach, over, refused, onward, Doing, and_next, kept_each}
use Rattle.typing.proofs.Each.{EachLeft, each_here, each_refused, each_onward, DoesEach, does_at, each_does}
use Rattle.checking.specs.Each.{GivesOf, its_kind, other_kind, DoesItems}
use Rattle.checking.specs.Walk.{SheetIn, EntryIn, ScopeIn}
use Rattle.checking.proofs.Steps.{kept_then}

-- ------------------------------------------------------------ parts of a model

abbrev nothing : Model
nothing = record { fields = []; events = []; entries = []; invariants = []; genesis = [] }

abbrev of_state : List Field → Model
of_state xs = record { fields = xs; events = []; entries = []; invariants = []; genesis = [] }

abbrev of_event : List Event → Model
of_event xs = record { fields = []; events = xs; entries = []; invariants = []; genesis = [] }

abbrev of_invariant : List Expr → Model
of_invariant xs = record { fields = []; events = []; entries = []; invariants = xs; genesis = [] }

abbrev of_genesis : List Stmt → Model
of_genesis xs = record { fields = []; events = []; entries = []; invariants = []; genesis = xs }

abbrev of_entry : List Entry → Model
of_entry xs = record { fields = []; events = []; entries = xs; invariants = []; genesis = [] }

-- ------------------------------------------------------------ the model of an item

module _ {s S : List ℕ} (d : Loaded s S) {i : ℕ} (h : i < line_count S) where
  abbrev it : Stands s S i
  it = stands d i h

  kind_is : {k : ℕ} → kind_at S i ≡ k → it.line.kind ≡ k
  kind_is e = sym it.says.kind ∙ e

  abbrev its : Model
  its = item_model (item_of (node_at s i))

  state_model : kind_at S i ≡ kinds.state → (its ≡ of_state (map field_of (nodes_at s (field_count S i) (suc i)))) × Row S grammar.Field (field_count S i) (suc i)
  unfolding item_model item_of
  state_model e =
      let p = parts it.line kinds.state it.parted (kind_is e) in
      let g = group d h grammar.Field p.0 p.1 in
      rw g.3 (rw (it.here, kind_is e, g.0) refl, g.2)

  event_model : kind_at S i ≡ kinds.event → its ≡ of_event (event_at s i ∷ [])
  unfolding item_model item_of event_at event_of
  event_model e = rw (it.here, kind_is e) refl

  invariant-model : kind_at S i ≡ kinds.invariant → (its ≡ of_invariant (expr_at s (suc i) ∷ [])) × Row S grammar.Expr 1 (suc i)
  unfolding item_model item_of expr_at
  invariant-model e =
      let p = parts it.line kinds.invariant it.parted (kind_is e) in
      let g = group d h grammar.Expr 1 p in
      let n : nodes it.parts ≡ node_at s (suc i) ∷ [] = g.0 ∙ nodes_next d 0 (suc i) (row_first g.2).within ∙ rw (no_nodes s (end_at S (suc i))) refl in
      (rw (it.here, kind_is e, n) refl, g.2)

  genesis_model : kind_at S i ≡ kinds.genesis → (its ≡ of_genesis (map stmt_of (nodes_at s (genesis_count S i) (suc i)))) × Row S grammar.Stmt (genesis_count S i) (suc i)
  unfolding item_model item_of
  genesis_model e =
      let p = parts it.line kinds.genesis it.parted (kind_is e) in
      let g = group d h grammar.Stmt p.0 p.1 in
      rw g.3 (rw (it.here, kind_is e, g.0) refl, g.2)

  entry_model : kind_at S i ≡ kinds.entry → its ≡ of_entry (entry_at s i ∷ [])
  unfolding item_model item_of entry_at entry_of
  entry_model e = rw (it.here, kind_is e) refl

-- ------------------------------------------------------------ the items of a kind

abbrev pub model_here : List ℕ → ℕ → Model
model_here s i = item_model (item_of (node_at s i))

-- what lists a part of a model, and the kind of the items that have it
pub record PartOf {A : Type 0} (get : Model → List A) (k : ℕ) : Type 0 where
  none : get nothing ≡ []
  both : (a b : Model) → get (joined a b) ≡ get a ++ get b
  other : {s S : List ℕ} → Loaded s S → {i : ℕ} → Here S grammar.Item i → kind_at S i ≢ k → get (model_here s i) ≡ []

-- an item of kind j has the part, or its model lists none
abbrev HasOrNone : {A B : Type 0} → (Model → List A) → (k j : ℕ) → (List B → Model) → Type 0
HasOrNone {A} {B} get k j of = (j ≡ k) ⊎ ((xs : List B) → get (of xs) ≡ [])

lists_none : {A B : Type 0} (get : Model → List A) {k j : ℕ} {of : List B → Model} → HasOrNone get k j of → {n : ℕ} → n ≢ k → n ≡ j → {m : Model} (xs : List B) → m ≡ of xs → get m ≡ []
lists_none get (inl e) n q xs f = absurd (n (q ∙ e))
lists_none get (inr f) n q xs e = ap get e ∙ f xs

others : {A : Type 0} (get : Model → List A) {k : ℕ} → HasOrNone get k kinds.state of_state → HasOrNone get k kinds.event of_event → HasOrNone get k kinds.invariant of_invariant → HasOrNone get k kinds.genesis of_genesis → HasOrNone get k kinds.entry of_entry
    → {s S : List ℕ} → Loaded s S → {i : ℕ} → Here S grammar.Item i → kind_at S i ≢ k → get (model_here s i) ≡ []
others get {k = k} f e v g y {s} {S} d {i} h n =
    pick {P = λ j. kind_at S i ≡ j → get (model_here s i) ≡ []} {i = kinds.state} {n = 5} (kind_at S i)
    ((λ q. lists_none get f n q _ (state_model d h.within q).0)
    also (λ q. lists_none get e n q _ (event_model d h.within q))
    also (λ q. lists_none get v n q _ (invariant-model d h.within q).0)
    also (λ q. lists_none get g n q _ (genesis_model d h.within q).0)
    also (λ q. lists_none get y n q _ (entry_model d h.within q))
    also end')
    h.kind.0 h.kind.1 refl

pub the_fields : PartOf (λ (m : Model). m.fields) kinds.state
unfolding joined
the_fields = record { none = refl; both = λ a b. refl; other = others (λ (m : Model). m.fields) (inl refl) (inr (λ x. refl)) (inr (λ x. refl)) (inr (λ x. refl)) (inr (λ x. refl)) }

pub the_events : PartOf (λ (m : Model). m.events) kinds.event
unfolding joined
the_events = record { none = refl; both = λ a b. refl; other = others (λ (m : Model). m.events) (inr (λ x. refl)) (inl refl) (inr (λ x. refl)) (inr (λ x. refl)) (inr (λ x. refl)) }

pub the_invariants : PartOf (λ (m : Model). m.invariants) kinds.invariant
unfolding joined
the_invariants = record { none = refl; both = λ a b. refl; other = others (λ (m : Model). m.invariants) (inr (λ x. refl)) (inr (λ x. refl)) (inl refl) (inr (λ x. refl)) (inr (λ x. refl)) }

pub the_genesis : PartOf (λ (m : Model). m.genesis) kinds.genesis
unfolding joined
the_genesis = record { none = refl; both = λ a b. refl; other = others (λ (m : Model). m.genesis) (inr (λ x. refl)) (inr (λ x. refl)) (inr (λ x. refl)) (inl refl) (inr (λ x. refl)) }

pub the_entries : PartOf (λ (m : Model). m.entries) kinds.entry
unfolding joined
the_entries = record { none = refl; both = λ a b. refl; other = others (λ (m : Model). m.entries) (inr (λ x. refl)) (inr (λ x. refl)) (inr (λ x. refl)) (inr (λ x. refl)) (inl refl) }

one : {A : Type 0} (f : A → Rule Unit) (a : A) (T : Table) → kept (for_each (a ∷ []) f) T ≡ kept (f a) T
unfolding for_each
one f a T = kept_unit (f a) T

module _ {A : Type 0} {get : Model → List A} {k : ℕ} (part : PartOf get k) (rule : A → Rule Unit) {s S : List ℕ} (d : Loaded s S) {post : Post}
    (each : (shown : MutBor Table) (j : ℕ) (r : Result Unit Refusal) (left : MutBor Table) → Here S grammar.Item j → kind_at S j ≡ k → post shown j r left → Does s (for_each (get (model_here s j)) rule) shown.now r left.now) where
  item_does : (j : ℕ) (T : Table) (r : Result Unit Refusal) (U : Table) → Here S grammar.Item j → GivesOf k S (Gives post) j T r U → Does s (for_each (get (model_here s j)) rule) T r U
  unfolding for_each
  item_does j T r U h (its_kind q p) = rw (← p.shows, ← p.leaves) (each p.shown j r p.left h q p.met)
  item_does j T r U h (other_kind q) = rw (part.other d h q) (does_nothing s T)

  abbrev all : (m i : ℕ) → List A
  all m i = get (build (map item_of (nodes_at s m i)))

  split : (m i : ℕ) (T : Table) → Here S grammar.Item i → kept (for_each (all (suc m) i) rule) T ≡ kept (for_each (get (model_here s i)) rule >>= λ _. for_each (all m (end_at S i)) rule) T
  unfolding build
  split m i T h = rw (nodes_next d m i h.within, part.both (model_here s i) (build (map item_of (nodes_at s m (end_at S i))))) (each_append rule (get (model_here s i)) (all m (end_at S i)) T)

  items_do : {m i : ℕ} {T : Table} {r : Result Unit Refusal} {U : Table} → Row S grammar.Item m i → GivesEach (GivesOf k S (Gives post)) S m i T r U → Does s (for_each (all m i) rule) T r U
  unfolding for_each build
  items_do {i = i} {T} w over = rw (no_nodes s i, part.none) (does_nothing s T)
  items_do {m = suc m} {i} {T} {U = U} (next h w) (refused {x = x} p) = record { gives = split m i T h ∙ (does_cut s _ _ T _ U (item_does i T _ U h p) x refl).gives }
  items_do {m = suc m} {i} {T} {r} {U} (next h w) (onward {U = V} p g) =
      record { gives = split m i T h ∙ (does_then s _ _ T _ V (item_does i T (Ok tt) V h p) refl r U (items_do w g)).gives }

  pub model_does : {T : Table} {r : Result Unit Refusal} {U : Table} → GivesEach (GivesOf k S (Gives post)) S (item_count S 0) 1 T r U → Does s (for_each (get (model_in s)) rule) T r U
  model_does g = rw (items_at d).0 (items_do (items_at d).1 g)

pub new_env : (s : List ℕ) (T : Table) → env_of s T (new 0 0) ≡ typing.new (model_in s) []
unfolding new env_of params_in lets nodes_at take_nodes nodes of_kind ends_in typing.new param_types
new_env s T = refl

genesis_env : (s : List ℕ) (T : Table) → env_of s T (in_genesis (new 0 0)) ≡ typing.in_genesis (typing.new (model_in s) [])
unfolding new in_genesis env_of params_in lets nodes_at take_nodes nodes of_kind ends_in typing.new typing.in_genesis param_types
genesis_env s T = refl

-- ------------------------------------------------------------ an item

pub sheet_as : {S : List ℕ} {T : Table} → SheetIn S T → (U : Table) → length U ≡ length T → SheetIn S U
sheet_as h U e = record { few = h.few; room = rw e h.room }

pub kind_here : (k : ℕ) (S : List ℕ) (i : ℕ) → Here S grammar.Item i → kind_at S i ≡ k → KindAt k S i
kind_here k S i a q = record { within = a.within; kind = q }

pub entry_in : (S : List ℕ) (T : Table) (i : ℕ) → SheetIn S T → (U : Table) → length U ≡ length T → Here S grammar.Item i → kind_at S i ≡ kinds.entry → EntryIn S U i
entry_in S T i h U e a q = record { sheet = sheet_as h U e; within = a.within; kind = q }

-- ... with this in force
pub scope_in : (k : ℕ) (this env : Env) (q b : LoadedSheet) (T : Table) (i : ℕ) → line_count q.lines.now ≤ length T → b ≡ q → env ≡ this → (U : Table) → length U ≡ length T → Here b.lines.now grammar.Item i → kind_at b.lines.now i ≡ k
    → ScopeIn k this b.lines.now env U i
scope_in k this env q b T i h e f U l a g = record { item = record { room = rw (e, l) h; within = a.within; kind = g }; is = f }

pub no_params : (S : List ℕ) (i : ℕ) → Row S grammar.Param 0 i
no_params S i = none'

-- what a scope without parameters and a step at each item of a kind may ask
pub ruleset items_in = (no_params, kind_here, entry_in, scope_in)

fields : Listed field_at (λ s m i. map field_of (nodes_at s m i))
unfolding field_at
fields = record { empty = λ s i. rw (no_nodes s i) refl; first = λ d m {i} w. rw (nodes_next d m i w) refl }

module _ (s S : List ℕ) (T : Table) (i : ℕ) (loaded : Loaded s S) (h : KindIn kinds.state S T i) (m : ℕ) (em : m ≡ field_count S i) where
  state_is : (model_here s i ≡ of_state (map field_of (nodes_at s m (i + 1)))) × Row S grammar.Field m (i + 1)
  state_is = rw (em, add-one i) (state_model loaded h.within h.kind)

  pub field_in : (U : Table) (k : ℕ) → length U ≡ length T → k < m → KindIn kinds.field S U (skip S k (i + 1))
  field_in U k e l =
      let x = row_nth k l state_is.1 in
      record { room = rw e h.room; within = x.within; kind = omega (arith, x.kind.0, x.kind.1) }

  pub fields_do : (env : Env) → env ≡ new 0 0 → (r : Result Unit Refusal) (U : Table) {post : Post} → GivesEach (Gives post) S m (i + 1) T r U
      → DoesEach post s (λ T' j. check_field (env_of s T' env) (field_at s j))
      → Does s (for_each (model_here s i).fields (check_field (typing.new (model_in s) []))) T r U
  fields_do env f r U g q =
      rw state_is.0 (each_does fields (check_field (typing.new (model_in s) [])) loaded (λ j T' x V p. rw (f, new_env s T') at (does_at (λ T' j. check_field (env_of s T' env) (field_at s j)) q j T' x V p)) state_is.1 g)

module _ (s S : List ℕ) (T : Table) (i : ℕ) (loaded : Loaded s S) (h : KindIn kinds.genesis S T i) (m : ℕ) (em : m ≡ genesis_count S i) where
  genesis_is : (model_here s i ≡ of_genesis (stmts_at s m (i + 1))) × Row S grammar.Stmt m (i + 1)
  unfolding stmts_at
  genesis_is = rw (em, add-one i) (genesis_model loaded h.within h.kind)

  pub stmt_in : (U : Table) (k : ℕ) → length U ≡ length T → k < m → StmtIn S U (skip S k (i + 1))
  stmt_in U k e l = record { room = rw e h.room; here = row_nth k l genesis_is.1 }

  pub stmts_do : (env : Env) → env ≡ in_genesis (new 0 0) → (r : Result Unit Refusal) (U : Table) {post : Post} → GivesEach (Gives post) S m (i + 1) T r U
      → DoesEach post s (λ T' j. check_genesis (env_of s T' env) (stmt_at s j))
      → Does s (for_each (model_here s i).genesis (check_genesis (typing.in_genesis (typing.new (model_in s) [])))) T r U
  stmts_do env f r U g q =
      rw genesis_is.0 (each_does stmts (check_genesis (typing.in_genesis (typing.new (model_in s) []))) loaded (λ j T' x V p. rw (f, genesis_env s T') at (does_at (λ T' j. check_genesis (env_of s T' env) (stmt_at s j)) q j T' x V p)) genesis_is.1 g)

module _ {s S : List ℕ} {T : Table} {i : ℕ} (loaded : Loaded s S) (h : KindIn kinds.invariant S T i) where
  pub invariant-expr : (kind_at S i ≡ kinds.invariant) × Here S grammar.Expr (suc i)
  invariant-expr = (h.kind, row_first (invariant-model loaded h.within h.kind).1)

  pub invariant-is : (Γ : typing.Env) → kept (for_each (model_here s i).invariants (expect_predicate Γ)) T ≡ kept (expect_predicate Γ (expr_at s (suc i))) T
  invariant-is Γ = rw (invariant-model loaded h.within h.kind).0 (one (expect_predicate Γ) (expr_at s (suc i)) T)

pub ruleset invariant_needs = (loaded_sheet, new_env, invariant-expr, invariant-is)

-- the parameters of an event or an entry, of which no type is asked
module _ (s S : List ℕ) (i : ℕ) (m : ℕ) (em : m ≡ param_count S i) {T : Table} {r : Result Unit Refusal} {U : Table} {post : Post} (loaded : Loaded s S) (g : GivesEach (Gives post) S m (i + 1) T r U) where
  abbrev Answered : (Param → Rule Unit) → Type 0
  Answered rule = (shown : MutBor Table) (j : ℕ) (x : Result Unit Refusal) (left : MutBor Table) → post shown j x left → Answers (rule (param_at s j)) (done_of s x)

  abbrev Leaves : Type 0
  Leaves = (shown : MutBor Table) (j : ℕ) (x : Result Unit Refusal) (left : MutBor Table) → post shown j x left → left.now ≡ shown.now

  params_do : (rule : Param → Rule Unit) → Row S grammar.Param m (i + 1) → Answered rule → Leaves → Does s (for_each (params_at s m (i + 1)) rule) T r U
  params_do rule w answers same =
      each_does params rule loaded (λ j T' x V p. does_at {s = s} (λ _ j. rule (param_at s j)) (λ shown j x left q. rw (same shown j x left q) (asks_none s _ shown.now x (answers shown j x left q))) j T' x V p) w g

  pub event_does : KindAt kinds.event S i → Answered check_event_param → Leaves → Does s (for_each (model_here s i).events (λ e. for_each e.params check_event_param)) T r U
  event_does h answers same =
      let l = event_at_lem loaded h.within h.kind in
      let all : (event_at s i).params ≡ params_at s m (i + 1) = rw (em, add-one i) (ap (λ (x : Event). x.params) l.0) in
      record { gives = rw (event_model loaded h.within h.kind) (one (λ x. for_each x.params check_event_param) (event_at s i) T ∙ rw all (params_do check_event_param (rw (em, add-one i) l.1) answers same).gives) }

  pub entry_params_do : KindAt kinds.entry S i → Answered check_entry_param → Leaves → Does s (for_each (model_here s i).entries (λ e. for_each e.params check_entry_param)) T r U
  entry_params_do h answers same =
      let l = entry_at_lem loaded h.within h.kind in
      let all : (entry_at s i).params ≡ params_at s m (i + 1) = rw (em, add-one i) (ap (λ (x : Entry). x.params) l.is) in
      record { gives = rw (entry_model loaded h.within h.kind) (one (λ x. for_each x.params check_entry_param) (entry_at s i) T ∙ rw all (params_do check_entry_param (rw (em, add-one i) l.params) answers same).gives) }

module _ (s S : List ℕ) (i : ℕ) (m : ℕ) (em : m ≡ param_count S i) (loaded : Loaded s S) where
  pub event_param : KindAt kinds.event S i → (k : ℕ) → k < m → Here S grammar.Param (skip S k (i + 1))
  event_param h k l = row_nth k l (rw (em, add-one i) (event_at_lem loaded h.within h.kind).1)

  pub entry_param : KindAt kinds.entry S i → (k : ℕ) → k < m → Here S grammar.Param (skip S k (i + 1))
  entry_param h k l = row_nth k l (rw (em, add-one i) (entry_at_lem loaded h.within h.kind).params)

pub entry_does : {s S : List ℕ} → Loaded s S → {i : ℕ} {T : Table} {r : Result Unit Refusal} {U : Table} → Here S grammar.Item i → kind_at S i ≡ kinds.entry
    → Does s (check_entry (model_in s) (entry_at s i)) T r U → Does s (for_each (model_here s i).entries (check_entry (model_in s))) T r U
entry_does {s} d {i} {T} h e a = record { gives = rw (entry_model d h.within e) (one (check_entry (model_in s)) (entry_at s i) T ∙ a.gives) }

-- ------------------------------------------------------------ check_items, check

-- the record at a line is an item, and of the kind that the step is for
module _ {k : ℕ} {s S : List ℕ} (d : Loaded s S) {P : Step} {T₀ : Table} {r : Records} {T : Table} (w : EachLeft (GivesOf k S P) S (item_count S 0) 1 T₀ r T) {t : Records} {j : ℕ} (h : Steps r j t) where
  pub items_here : Here S grammar.Item j
  items_here = let a = each_here w h in rw a.0 (row_nth w.behind a.1 (items_at d).1)

  pub items_other : kind_at S j ≢ k → EachLeft (GivesOf k S P) S (item_count S 0) 1 T₀ t T
  items_other z = each_onward w h (Ok tt) T (other_kind z) refl

  module _ (z : kind_at S j ≡ k) (o : Result Unit Refusal) (U : Table) (p : P j T o U) where
    pub items_onward : o ≡ Ok tt → EachLeft (GivesOf k S P) S (item_count S 0) 1 T₀ t U
    items_onward f = each_onward w h o U (its_kind z p) f

    pub items_refused : (x : Refusal) → o ≡ Err x → GivesEach (GivesOf k S P) S (item_count S 0) 1 T₀ (Err x) U
    items_refused x f = each_refused w h o U x (its_kind z p) f

kind_of_node : {s S : List ℕ} → Loaded s S → {i : ℕ} → Here S grammar.Item i → node_kind (node_at s i) ≡ kind_at S i
unfolding node_kind
kind_of_node d {i} h = let t = stands d i h.within in rw t.here (sym t.says.kind)

-- what the answers of a step come to, for all that it does at an item of the kind
module _ {k : ℕ} {s S : List ℕ} (d : Loaded s S) where
  module _ (m : ℕ) {i : ℕ} (h : Here S grammar.Item i) where
    its_next : kind_at S i ≡ k → of_kind k (nodes_at s (suc m) i) ≡ node_at s i ∷ of_kind k (nodes_at s m (end_at S i))
    unfolding of_kind
    its_next q = rw (nodes_next d m i h.within, of_kind, let z : eqb (node_kind (node_at s i)) k ≡ true = rw (kind_of_node d h) (eq-eqb (kind_at S i) k q) in z) refl

    other_next : kind_at S i ≢ k → of_kind k (nodes_at s (suc m) i) ≡ of_kind k (nodes_at s m (end_at S i))
    unfolding of_kind
    other_next q = rw (nodes_next d m i h.within, of_kind, let z : eqb (node_kind (node_at s i)) k ≡ false = rw (kind_of_node d h) (ne_eqb (kind_at S i) k q) in z) refl

  of_kind_do : {P : Step} {m i : ℕ} {T : Table} {r : Result Unit Refusal} {U : Table} → GivesEach (GivesOf k S P) S m i T r U → Row S grammar.Item m i → (f : Doing)
      → ((j : ℕ) (V : Table) (e : Result Unit Refusal) (W : Table) → Here S grammar.Item j → kind_at S j ≡ k → P j V e W → f (node_at s j) V ≡ record { res = done_of s e; table = W })
      → kept_each f (of_kind k (nodes_at s m i)) T ≡ record { res = done_of s r; table = U }
  unfolding kept_each and_next done_of of_kind
  of_kind_do {i = i} over w f each = rw (no_nodes s i) refl
  of_kind_do {m = suc m} {i} {T} {U = U} (refused {x = x} (its_kind q p)) (next h w) f each = rw (its_next m h q, each i T (Err x) U h q p) refl
  of_kind_do {m = suc m} {i} {T} (onward {U = V} (its_kind q p) g) (next h w) f each = rw (its_next m h q, each i T (Ok tt) V h q p) (of_kind_do g w f each)
  of_kind_do {m = suc m} (onward (other_kind q) g) (next h w) f each = rw (other_next m h q) (of_kind_do g w f each)

  pub items_of_kind : {P : Step} {T : Table} {r : Result Unit Refusal} {U : Table} → GivesEach (GivesOf k S P) S (item_count S 0) 1 T r U → DoesItems k P s S T r U
  items_of_kind g f each = of_kind_do g (items_at d).1 f each

pub few_lines : (S : List ℕ) (T : Table) → SheetIn S T → line_count S ≤ most_lines
few_lines S T h = h.few

pub sheet_room : (S : List ℕ) (T : Table) → SheetIn S T → (U : Table) → length U ≡ length T → line_count S ≤ length U
sheet_room S T h U e = rw e h.room

pub room_as : (S : List ℕ) (T : Table) → line_count S ≤ length T → (U : Table) → length U ≡ length T → line_count S ≤ length U
room_as S T h U e = rw e h

-- what `before_entries` does and asks of its calls, and `check`
pub ruleset room_needs = (kept_then, room_as)

pub ruleset sheet_needs = (kept_then, sheet_as, few_lines, sheet_room)
