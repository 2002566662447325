-- The last state field of a name. Assumes nothing.
use mathlib.Core.Logic.{◌≢◌}
use mathlib.Core.Path.{◌≡◌, refl, sym, ap, ◌∙◌}
use mathlib.Core.List.{List, [], ◌∷◌, map, map-append}
use mathlib.Core.Bool.{Bool, true, false}
use Prim.Native.Nat.{ℕ, suc, ◌+◌, ◌<◌, ◌≤◌}
use native.Mathlib.Omega.{arith}
use lib.Dec.{eqb}
use borrow.Author.Tests.{eq-eqb, ne_eqb}
use Rattle.std.specs.Option.{option_or}
use Rattle.std.specs.Prelude.{Option, Some, None, option_map}
use Rattle.text.specs.Text.{same}
use Rattle.grammar.specs.Grammar as grammar
use Rattle.sheet.specs.Held.{Held, held}
use Rattle.sheet.specs.Held as formed
use Rattle.sheet.specs.Scratch.{kind_at, end_at, line_count, item_count, field_count}
use Rattle.sheet.specs.Records.{Steps}
use Rattle.sheet.specs.declared.records.Records.{Records}
use Rattle.sheet.specs.Tree.{Node, node, nil, more, take_nodes}
use Rattle.text.proofs.Words.{same-is}
use Rattle.rules.specs.Text.{Name, last_named}
use Rattle.rules.specs.Ast.{item_of, field_of, param_of, contract_of, nodes}
use Rattle.rules.specs.Model.{item_model, joined, build, field_named}
use Rattle.rules.specs.Verdict.{model_of}
use Rattle.rules.specs.Standing.{node_name, trees_from, drop_lines, node_at, nodes_at, field_at, model_in, Loaded, Here, Row, stop, next}
use Rattle.rules.proofs.Parts.{stop as end, ◌also◌, pick, parts}
use Rattle.rules.proofs.Lookups.{or_none, last_append}
use Rattle.rules.proofs.Records.{group}
use Rattle.rules.proofs.Rows.{records, IterWalk, iter_here, iter_onward, iter_over}
use Rattle.rules.proofs.Standing.{Stands, stands, nodes_next}
use Rattle.lookups.specs.Found.{node_kind, of_kind, found_node, found_field, item_fields, all_fields, model_at, Stretch, FoundKind, Last, Newest, FieldsNamed, FieldNamed}
use Rattle.lookups.specs.Lines.{KindAt}
use Rattle.grammar.specs.Kinds as kinds

-- ------------------------------------------------------------ the last of a name

pub last_map : {A B : Type 0} (g : A → B) (f : B → Name) (h : A → Name) (x : Name) → ((a : A) → f (g a) ≡ h a)
    → (as' : List A) → last_named f x (map g as') ≡ option_map g (last_named h x as')
unfolding last_named
last_map g f h x e [] = refl
last_map {A} {B} g f h x e (a ∷ as') = by_cases (last_named h x as') (same x (h a)) _ _ (last_map g f h x e as') (ap (same x) (e a))
  where
    by_cases : (l : Option A) (b : Bool) (l' : Option B) (b' : Bool) → l' ≡ option_map g l → b' ≡ b
        → ◌≡◌ {A = Option B} (elim l' [ Some y ↦ Some y | None ↦ elim b' [ true ↦ Some (g a) | false ↦ None ] ])
        (option_map g (elim l as (λ _. Option A) [ Some y ↦ Some y | None ↦ elim b [ true ↦ Some a | false ↦ None ] ]))
    by_cases (Some y) b l' b' p q = rw p refl
    by_cases None true l' b' p q = rw (p, q) refl
    by_cases None false l' b' p q = rw (p, q) refl

-- ------------------------------------------------------------ the fields of a model

item_fields_lem : (t : Node) → kinds.state ≤ node_kind t → node_kind t < kinds.field → (item_model (item_of t)).fields ≡ map field_of (item_fields t)
unfolding node_kind item_model item_of item_fields
item_fields_lem (node i l ps) a b =
    pick {P = λ k. l.kind ≡ k → (item_model (item_of (node i l ps))).fields ≡ map field_of (item_fields (node i l ps))} {i = kinds.state} {n = 5} l.kind
    ((λ e. rw e refl) also (λ e. rw e refl) also (λ e. rw e refl) also (λ e. rw e refl) also (λ e. rw e refl) also end)
    a b refl

-- ... which the item at a line declares
pub item_here : {s S : List ℕ} {i : ℕ} → Loaded s S → Here S grammar.Item i → (item_model (item_of (node_at s i))).fields ≡ map field_of (item_fields (node_at s i))
unfolding node_kind
item_here {s} {S} {i} d h =
    let t = stands d i h.within in
    let k : node_kind (node_at s i) ≡ kind_at S i = rw t.here (sym t.says.kind) in
    item_fields_lem (node_at s i) (omega (arith, k, h.kind.0)) (omega (arith, k, h.kind.1))

row_fields : {s S : List ℕ} {m i : ℕ} → Loaded s S → Row S grammar.Item m i → (build (map item_of (nodes_at s m i))).fields ≡ map field_of (all_fields (nodes_at s m i))
unfolding nodes_at take_nodes nodes build joined
row_fields d stop = refl
row_fields {s} {S} {m = suc m} {i} d (next h r) =
    rw (
      nodes_next d m i h.within,
      map-append field_of (item_fields (node_at s i)) (all_fields (nodes_at s m (end_at S i))),
      ← item_here d h,
      ← row_fields d r,
    )
    refl

root : {S : List ℕ} {n : ℕ} {t : Node} → Held S n 0 t → formed.Formed grammar.Contract t → (0 < n) × (node_kind t ≡ kinds.contract)
unfolding node_kind
root (held h y r) (formed.formed a p fs) = (h, omega (arith, a.0, a.1))

-- the items of a sheet
pub items_at : {s S : List ℕ} → Loaded s S → (model_in s ≡ build (map item_of (nodes_at s (item_count S 0) 1))) × Row S grammar.Item (item_count S 0) 1
unfolding model_in model_of contract_of node_at trees_from drop_lines node_kind
items_at {s} {S} d =
    let r = root d.holding.held d.holding.formed in
    let t = stands d 0 r.0 in
    let e : d.root ≡ node 0 t.line t.parts = rw d.one at t.here in
    let g = parts t.line kinds.contract t.parted (rw e at r.1) in
    let q = group d r.0 grammar.Item g.0 g.1 in
    rw q.3 (ap build (ap contract_of d.one ∙ ap (λ y. contract_of (more y nil)) e ∙ ap (map item_of) q.0), q.2)

-- ------------------------------------------------------------ the fields of an item

-- records that are all of one kind
pub all_kind : {s S : List ℕ} {σ : grammar.Sort} {m i : ℕ} (k : ℕ) → ((j : ℕ) → Here S σ j → kind_at S j ≡ k) → Loaded s S → Row S σ m i
    → of_kind k (nodes_at s m i) ≡ nodes_at s m i
unfolding nodes_at take_nodes nodes of_kind node_kind
all_kind k e d stop = refl
all_kind {s} {S} {m = suc m} {i} k e d (next h r) =
    let t = stands d i h.within in
    let q : eqb (node_kind (node_at s i)) k ≡ true = rw (t.here, ← t.says.kind, e i h) (eq-eqb k k refl) in
    rw (nodes_next d m i h.within, of_kind, q) (ap (λ ts. node_at s i ∷ ts) (all_kind k e d r))

no_fields : (t : Node) → node_kind t ≢ kinds.state → item_fields t ≡ []
unfolding item_fields node_kind
no_fields (node i l ps) h = rw (item_fields, ne_eqb l.kind kinds.state h) refl

its_fields : {s S : List ℕ} {i : ℕ} (t : Stands s S i) → t.line.kind ≡ kinds.state → item_fields (node_at s i) ≡ nodes t.parts
unfolding item_fields
its_fields t e = rw (t.here, item_fields, e) refl

module _ (s S : List ℕ) (i : ℕ) (d : Loaded s S) (h : i < line_count S) where
  abbrev t : Stands s S i
  t = stands d i h

  kind_is : t.line.kind ≡ kind_at S i
  kind_is = sym t.says.kind

  pub not_state : kind_at S i ≢ kinds.state → item_fields (node_at s i) ≡ []
  unfolding node_kind
  not_state q = no_fields (node_at s i) (rw (t.here, kind_is) q)

  pub of_state : (m j : ℕ) → kind_at S i ≡ kinds.state → m ≡ field_count S i → j ≡ i + 1 → (item_fields (node_at s i) ≡ nodes_at s m j) × Row S grammar.Field m j
  of_state m j q c y =
      let p = parts t.line kinds.state t.parted (kind_is ∙ q) in
      let o = group d h grammar.Field p.0 p.1 in
      let z : j ≡ suc i = omega arith in
      let b : m ≡ p.0 = c ∙ o.3 in
      rw (z, b) (its_fields t (kind_is ∙ q) ∙ o.0, o.2)

module _ (s S : List ℕ) (x : Name) (i : ℕ) (f : Option ℕ) (d : Loaded s S) (h : i < line_count S) where
  pub other : kind_at S i ≢ kinds.state → Newest s S x i f f
  unfolding last_named
  other q = record { found = rw (not_state s S i d h q) refl; kind = λ o. o }

  module _ (m j : ℕ) (q : kind_at S i ≡ kinds.state) (c : m ≡ field_count S i) (y : j ≡ i + 1) where
    abbrev g : (item_fields (node_at s i) ≡ nodes_at s m j) × Row S grammar.Field m j
    g = of_state s S i d h m j q c y

    pub fields_behind : Stretch S m j
    fields_behind = record { sort = grammar.Field; row = g.1 }

    fields_are : item_fields (node_at s i) ≡ of_kind kinds.field (nodes_at s m j)
    fields_are = g.0 ∙ sym (all_kind kinds.field (λ a b. omega (arith, b.kind.0, b.kind.1)) d g.1)

    module _ (r : Option ℕ) (l : Last s S kinds.field x m j r) where
      pub newer : (o : Option ℕ) → o ≡ option_or r f → Newest s S x i f o
      unfolding found_node
      newer o z = by_cases r l z
        where
          by_cases : (r : Option ℕ) → Last s S kinds.field x m j r → o ≡ option_or r f → Newest s S x i f o
          by_cases (Some a) l z = record { found = rw (fields_are, ← l.found, z) refl; kind = λ o. rw z l.kind }
          by_cases None l z = record { found = rw (fields_are, ← l.found, z) refl; kind = λ o. rw z o }

-- ------------------------------------------------------------ item by item

pub as_field : (s : List ℕ) (r : Option ℕ) → found_field s r ≡ option_map field_of (found_node s r)
unfolding found_field found_node field_at
as_field s (Some i) = refl
as_field s None = refl

pub field-name : (t : Node) → (field_of t).name ≡ node_name t
unfolding field_of node_name
field-name (node i l ps) = refl

pub param-name : (t : Node) → (param_of t).name ≡ node_name t
unfolding param_of node_name
param-name (node i l ps) = refl

-- what is found so far, before the items that r gives
pub record FieldsGoing (s S : List ℕ) (x : Name) (m i : ℕ) (r : Records) (f : Option ℕ) : Type 0 where
  pub loaded : Loaded s S
  pub items : Row S grammar.Item m i
  pub walk : IterWalk grammar.Item nodes_at (λ ts. last_named node_name x (all_fields (nodes_at s m i)) ≡ option_or (last_named node_name x (all_fields ts)) (found_node s f)) s S r
  pub kind : FoundKind S kinds.field f

pub fields_start : (s S : List ℕ) (x : Name) (m i : ℕ) (r : Records) → Loaded s S → Row S grammar.Item m i → r.lines.now ≡ S → r.left ≡ m → r.at ≡ i → FieldsGoing s S x m i r None
unfolding found_node
fields_start s S x m i r d h l e a =
    record { loaded = d; items = h; walk = record { lines = l; walk = rw (e, a) (record { loaded = d; row = h; known = sym (or_none _) }) }; kind = tt }

module _ (s S : List ℕ) (x : Name) (m i : ℕ) (r : Records) (f : Option ℕ) (g : FieldsGoing s S x m i r f) where
  module _ (t : Records) (at : ℕ) (h : Steps r at t) where
    pub fields_item : kind_at S at ≡ kinds.state → KindAt kinds.state S at
    fields_item q = record { within = (iter_here h g.walk).within; kind = q }

    pub fields_turn : (f' : Option ℕ) → Newest s S x at f f' → FieldsGoing s S x m i t f'
    fields_turn f' e =
        record {
          loaded = g.loaded;
          items = g.items;
          walk =
              iter_onward h records g.walk
              (λ ts z. z ∙ rw e.found (last_append node_name x (item_fields (node_at s at)) (all_fields ts) (found_node s f)));
          kind = e.kind g.kind;
        }

    -- an item that is no state
    pub fields-skip : kind_at S at ≢ kinds.state → FieldsGoing s S x m i t f
    fields-skip n = fields_turn f (other s S x at f g.loaded (iter_here h g.walk).within n)

  pub fields_over : r.left ≡ 0 → FieldsNamed s S x m i f
  unfolding last_named field_named model_at
  fields_over h =
      let last : found_node s f ≡ last_named node_name x (all_fields (nodes_at s m i)) = sym (iter_over records g.walk h) in
      record {
        found =
            as_field s f
            ∙ ap (option_map field_of) last
            ∙ sym (rw (row_fields g.loaded g.items) (last_map field_of (λ y. y.name) node_name x field-name (all_fields (nodes_at s m i))));
        node = last;
        kind = g.kind;
      }

-- ------------------------------------------------------------ all items

pub all_items : (s S : List ℕ) (m : ℕ) → Loaded s S → m ≡ item_count S 0 → Row S grammar.Item m 1
all_items s S m d e = rw e ((items_at d).1)

pub all_fields_lem : (s S : List ℕ) (x : Name) (m : ℕ) (r : Option ℕ) → Loaded s S → m ≡ item_count S 0 → FieldsNamed s S x m 1 r → FieldNamed s S x r
unfolding model_at
all_fields_lem s S x m r d e f = record { found = rw ((items_at d).0, ← e) f.found; node = rw (← e) f.node; kind = f.kind }

-- ------------------------------------------------------------ the line and the name of a field

last_same : {A : Type 0} (f : A → Name) (x : Name) (as' : List A) (a : A) → last_named f x as' ≡ Some a → same x (f a) ≡ true
unfolding last_named
last_same f x [] a e = absurd (let z : ◌≡◌ {A = ℕ} 0 1 = cc in omega arith)
last_same {A} f x (b ∷ as') a e = by_cases (last_named f x as') (same x (f b)) refl (last_same f x as' a) e
  where
    by_cases : (o : Option A) (t : Bool) → same x (f b) ≡ t → (o ≡ Some a → same x (f a) ≡ true)
        → elim o as (λ _. Option A) [ Some y ↦ Some y | None ↦ elim t as (λ _. Option A) [ true ↦ Some b | false ↦ None ] ] ≡ Some a → same x (f a) ≡ true
    by_cases (Some y) t q h z = h z
    by_cases None true q h z = let w : b ≡ a = cc in rw (← w) q
    by_cases None false q h z = absurd (let w : ◌≡◌ {A = ℕ} 0 1 = cc in omega arith)

module _ {s S : List ℕ} (d : Loaded s S) where
  -- one name, one line
  pub one_line : {x : Name} {i j : ℕ} → FieldNamed s S x (Some i) → FieldNamed s S x (Some j) → i ≡ j
  unfolding found_node
  one_line {x} {i} {j} a b =
      let t = stands d i a.kind.0 in
      let u = stands d j b.kind.0 in
      let e : Some (node_at s i) ≡ Some (node_at s j) = a.node ∙ sym b.node in
      cc (e, t.here, u.here)

  -- one line, one name
  pub one_name : {x y : Name} {i : ℕ} → FieldNamed s S x (Some i) → FieldNamed s S y (Some i) → x ≡ y
  unfolding found_node
  one_name {x} {y} {i} a b =
      same-is x (node_name (node_at s i)) (last_same node_name x _ _ (sym a.node))
      ∙ sym (same-is y (node_name (node_at s i)) (last_same node_name y _ _ (sym b.node)))
