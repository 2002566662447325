-- The items of two trees with the same records, and their models, are alike. Assumes nothing.
use mathlib.Core.Path.{◌≡◌, refl, sym, ap, ap₂, ◌∙◌}
use mathlib.Core.Logic.{◌⊎◌, inl, inr}
use mathlib.Core.List.Forall₂.{cons as cons₂}
use mathlib.Core.List.Forall₂.{nil as nil₂}
use mathlib.Core.List.{List, [], ◌∷◌, ◌++◌, map, append-nil, Forall₂}
use Prim.Native.Nat.{ℕ, zero, suc, ◌+◌, ◌-◌, ◌<◌, ◌≤◌}
use native.Mathlib.Omega.{arith}
use lib.ListN.{get_or, take}
use Rattle.grammar.specs.Grammar as grammar
use Rattle.sheet.specs.Line.{Line}
use Rattle.sheet.specs.Load.{copies, sorts}
use Rattle.sheet.specs.Tree.{Node, node, Nodes}
use Rattle.sheet.specs.Held.{Among, Parted, Formed, formed, FormedAll, none_due, one_due}
use Rattle.sheet.specs.Same.{SameRecord}
use Rattle.sheet.proofs.Paired.{append₂, take₂, drop₂, map₂}
use Rattle.sheet.proofs.Twins.{Twin, twin, Twins, no_twin, and_twin, twin_map, twins_map}
use Rattle.rules.specs.Text.{Name}
use Rattle.rules.specs.Ast.{Expr, Field, Param, Event, Entry, Stmt, Item, state, event, invariant, genesis, entry, expr_of, arg_of, args_of, type_of, nodes, blank_node, field_of, param_of, clause_of, stmt_of, entry_of, item_of}
use Rattle.rules.specs.Model.{Model, item_model, joined, build, field_named, event_named}
use Rattle.rules.proofs.All.{All}
use Rattle.rules.proofs.Parts.{Each as Numbers, stop, ◌also◌, pick, parts}
use Rattle.related.proofs.Alike.{Setting, setting_of}
use Rattle.related.proofs.Like.{Head, SameField, ExprLike, last_like}
use Rattle.related.proofs.LikeStatements.{SameEvent, StmtLike}
use Rattle.related.proofs.LikeEntries.{each_clauses, EntryLike}
use Rattle.related.proofs.LikeCheck.{FieldLike, ModelBy, PartLike, ModelLike}
use Rattle.related.proofs.TwinExprs.{SameNamed, SettingTwin, nodes_twins, same_name, at_twin, maybe_twin, stmt_twin, clause_twin}
use Rattle.grammar.specs.Kinds as kinds

-- ------------------------------------------------------------ types are the same

abbrev TypeSort : grammar.Sort → Type 0
TypeSort s = (s ≡ grammar.Ty) ⊎ (s ≡ grammar.Arg)

in_type : (s : grammar.Sort) (k : ℕ) → TypeSort s → Among s k → (kinds.type ≤ k) × (k < kinds.limits)
in_type s k (inl e) a = let b : Among grammar.Ty k = rw e at a in (omega arith, omega arith)
in_type s k (inr e) a = let b : Among grammar.Arg k = rw e at a in (omega arith, omega arith)

all_copies : (P : grammar.Sort → Type 0) (n : ℕ) (s : grammar.Sort) → P s → All P (copies n s)
unfolding copies
all_copies P zero s h = tt
all_copies P (suc n) s h = (h, all_copies P n s h)

type_parts : (l : Line) → Parted l → (kinds.type ≤ l.kind) × (l.kind < kinds.limits) → All TypeSort (sorts l.parts)
unfolding sorts
type_parts l p a = pick l.kind each_kind a.0 a.1 refl
  where
    each_kind : Numbers (λ k. l.kind ≡ k → All TypeSort (sorts l.parts)) kinds.type 3
    each_kind =
        (λ e. let m = parts l kinds.type p e in rw (m.1, append-nil) (all_copies TypeSort m.0 grammar.Arg (inr refl)))
        also (λ e. rw (parts l kinds.num p e) tt)
        also (λ e. rw (parts l kinds.mofn p e) tt)
        also stop

arg_made : (i j : ℕ) (l k : Line) (ps qs : Nodes) (d : ℕ) → l.kind - kinds.type ≡ d → k.kind - kinds.type ≡ d → l.name ≡ k.name → l.spans ≡ k.spans → args_of ps ≡ args_of qs → arg_of (node i l ps) ≡ arg_of (node j k qs)
unfolding arg_of
arg_made i j l k ps qs zero e f n s as' = rw (e, f, n, s, as')
arg_made i j l k ps qs (suc zero) e f n s as' = rw (e, f, n)
arg_made i j l k ps qs (suc (suc zero)) e f n s as' = rw (e, f)
arg_made i j l k ps qs (suc (suc (suc d))) e f n s as' = rw (e, f)

module _ {L : ℕ → ℕ → Type 0} {Free : Type 0} where
  mutual
    unfolding args_of

    arg_same : {s : grammar.Sort} {t u : Node} → Formed s t → TypeSort s → Twin L (SameRecord Free) t u → arg_of t ≡ arg_of u
    arg_same {s} (formed {l = l} a p fs) y (twin {i = i} {j = j} {k = k} {ps = ps} {qs = qs} n h r) =
        let b = in_type s l.kind y a in
        arg_made i j l k ps qs (l.kind - kinds.type) refl (ap (λ (n : ℕ). n - kinds.type) (sym h.kind)) (same_name h (λ q. omega arith)) h.spans (args-same fs (type_parts l p b) r)

    args-same : {ss : List grammar.Sort} {ns ms : Nodes} → FormedAll ss ns → All TypeSort ss → Twins L (SameRecord Free) ns ms → args_of ns ≡ args_of ms
    args-same none_due y no_twin = refl
    args-same (one_due f fs) y (and_twin h r) = rw (arg_same f y.0 h, args-same fs y.1 r)

  type-same : {s : grammar.Sort} {t u : Node} → Formed s t → TypeSort s → Twin L (SameRecord Free) t u → type_of t ≡ type_of u
  unfolding type_of
  type-same {s} (formed {l = l} a p fs) y (twin n h r) =
      let b = in_type s l.kind y a in
      rw (h.spans, same_name h (λ q. omega arith), args-same fs (type_parts l p b) r)

  first_type : {ss : List grammar.Sort} {ns ms : Nodes} → FormedAll (grammar.Ty ∷ ss) ns → Twins L (SameRecord Free) ns ms → type_of (get_or (nodes ns) 0 blank_node) ≡ type_of (get_or (nodes ms) 0 blank_node)
  unfolding nodes
  first_type (one_due f fs) (and_twin h r) = type-same f (inl refl) h

  param-same : {t u : Node} → Formed grammar.Param t → Twin L (SameRecord Free) t u → param_of t ≡ param_of u
  unfolding param_of sorts copies
  param-same (formed {l = l} a p fs) (twin n h r) =
      rw (same_name h (λ q. omega arith), first_type (rw (parts l kinds.param p (omega (arith, a))) at fs) r)

  pub head_same : {t u : Node} → Formed grammar.Field t → Twin L (SameRecord Free) t u → Head (field_of t) (field_of u)
  unfolding field_of sorts copies
  head_same (formed {l = l} a p fs) (twin n h r) =
      let m = parts l kinds.field p (omega (arith, a)) in
      record { name = same_name h (λ q. omega arith); ty = first_type (rw m.1 at fs) r }

  params_same : {ns ms : Nodes} (ss : List grammar.Sort) (n : ℕ) → FormedAll (copies n grammar.Param ++ ss) ns → Twins L (SameRecord Free) ns ms → map param_of (take n (nodes ns)) ≡ map param_of (take n (nodes ms))
  unfolding nodes copies
  params_same ss zero f h = refl
  params_same ss (suc n) (one_due f fs) (and_twin h r) = ap₂ ◌∷◌ (param-same f h) (params_same ss n fs r)

  pub all_params : {ns ms : Nodes} (n : ℕ) → FormedAll (copies n grammar.Param) ns → Twins L (SameRecord Free) ns ms → map param_of (nodes ns) ≡ map param_of (nodes ms)
  unfolding nodes copies
  all_params zero none_due no_twin = refl
  all_params (suc n) (one_due f fs) (and_twin h r) = ap₂ ◌∷◌ (param-same f h) (all_params n fs r)

-- ------------------------------------------------------------ items

-- items, of whose fields, expressions, statements and entries this holds
pub data ItemBy (F : Field → Field → Type 0) (E : Expr → Expr → Type 0) (B : Stmt → Stmt → Type 0) (N : Entry → Entry → Type 0) : Item → Item → Type 0 where
  state~ : {fs gs : List Field} → Forall₂ F fs gs → ItemBy F E B N (state fs) (state gs)
  event~ : {e f : Event} → e ≡ f → ItemBy F E B N (event e) (event f)
  invariant~ : {e f : Expr} → E e f → ItemBy F E B N (invariant e) (invariant f)
  genesis~ : {ss us : List Stmt} → Forall₂ B ss us → ItemBy F E B N (genesis ss) (genesis us)
  entry~ : {a b : Entry} → N a b → ItemBy F E B N (entry a) (entry b)

module _ {F : Field → Field → Type 0} {E : Expr → Expr → Type 0} {B : Stmt → Stmt → Type 0} {N : Entry → Entry → Type 0} where
  pub build_by : {is' js : List Item} → Forall₂ (ItemBy F E B N) is' js → ModelBy F E B N (build is') (build js)
  unfolding build joined item_model
  build_by nil₂ = record { fields = nil₂; events = refl; entries = nil₂; invariants = nil₂; genesis = nil₂ }
  build_by (cons₂ (state~ h) r) =
      let k = build_by r in record { fields = append₂ h k.fields; events = k.events; entries = k.entries; invariants = k.invariants; genesis = k.genesis }
  build_by (cons₂ (event~ h) r) =
      let k = build_by r in record { fields = k.fields; events = ap₂ ◌∷◌ h k.events; entries = k.entries; invariants = k.invariants; genesis = k.genesis }
  build_by (cons₂ (invariant~ h) r) =
      let k = build_by r in record { fields = k.fields; events = k.events; entries = k.entries; invariants = cons₂ h k.invariants; genesis = k.genesis }
  build_by (cons₂ (genesis~ h) r) =
      let k = build_by r in record { fields = k.fields; events = k.events; entries = k.entries; invariants = k.invariants; genesis = append₂ h k.genesis }
  build_by (cons₂ (entry~ h) r) =
      let k = build_by r in record { fields = k.fields; events = k.events; entries = cons₂ h k.entries; invariants = k.invariants; genesis = k.genesis }

event-same : {x y : Name} {ps qs : List Param} → x ≡ y → ps ≡ qs → ◌≡◌ {A = Event} (record { name = x; params = ps }) (record { name = y; params = qs })
event-same e f = rw (e, f)

-- what is to be shown of fields, expressions, statements and entries, and that it holds of those of two trees
module _ {L : ℕ → ℕ → Type 0} {R : Line → Line → Type 0} {Free : Type 0} (same : (l k : Line) → R l k → SameRecord Free l k)
    (F : Field → Field → Type 0) (E : Expr → Expr → Type 0) (B : Stmt → Stmt → Type 0) (N : Entry → Entry → Type 0)
    (field : (t u : Node) → Formed grammar.Field t → Twin L R t u → F (field_of t) (field_of u))
    (expr : (ns ms : List Node) → Forall₂ (Twin L R) ns ms → E (expr_of (get_or ns 0 blank_node)) (expr_of (get_or ms 0 blank_node)))
    (stmt : (t u : Node) → Twin L R t u → B (stmt_of t) (stmt_of u))
    (entry' : (i j : ℕ) (l k : Line) (ps qs : Nodes) → l.kind ≡ kinds.entry → Parted l → FormedAll (sorts l.parts) ps → R l k → Twins L R ps qs → N (entry_of (node i l ps)) (entry_of (node j k qs))) where
  fields_by : {ns ms : Nodes} (n : ℕ) → FormedAll (copies n grammar.Field) ns → Twins L R ns ms → Forall₂ F (map field_of (nodes ns)) (map field_of (nodes ms))
  unfolding nodes copies
  fields_by zero none_due no_twin = nil₂
  fields_by (suc n) (one_due f fs) (and_twin h r) = cons₂ (field _ _ f h) (fields_by n fs r)

  item_made : (i j : ℕ) (l k : Line) (ps qs : Nodes) (d : ℕ) → l.kind - kinds.state ≡ d → k.kind - kinds.state ≡ d → Parted l → Among grammar.Item l.kind
      → FormedAll (sorts l.parts) ps → R l k → Twins L R ps qs → ItemBy F E B N (item_of (node i l ps)) (item_of (node j k qs))
  unfolding item_of entry_of sorts
  item_made i j l k ps qs zero e f p a fs h r = let m = parts l kinds.state p (omega arith) in rw (e, f) (state~ (fields_by m.0 (rw (m.1, append-nil) at fs) r))
  item_made i j l k ps qs (suc zero) e f p a fs h r =
      let m = parts l kinds.event p (omega arith) in
      rw (e, f) (event~ (event-same (same_name (same l k h) (λ q. omega arith)) (all_params m.0 (rw (m.1, append-nil) at fs) (twins_map same r))))
  item_made i j l k ps qs (suc (suc zero)) e f p a fs h r = rw (e, f) (invariant~ (expr _ _ (nodes_twins r)))
  item_made i j l k ps qs (suc (suc (suc zero))) e f p a fs h r = rw (e, f) (genesis~ (map₂ stmt_of stmt_of stmt (nodes_twins r)))
  item_made i j l k ps qs (suc (suc (suc (suc zero)))) e f p a fs h r = rw (e, f) (entry~ (entry' i j l k ps qs (omega arith) p fs h r))
  item_made i j l k ps qs (suc (suc (suc (suc (suc d))))) e f p a fs h r = rw (e, f) (state~ nil₂)

  item_twin : {t u : Node} → Formed grammar.Item t → Twin L R t u → ItemBy F E B N (item_of t) (item_of u)
  item_twin (formed {l = l} a p fs) (twin {i = i} {j = j} {k = k} {ps = ps} {qs = qs} n h r) =
      item_made i j l k ps qs (l.kind - kinds.state) refl (ap (λ (n : ℕ). n - kinds.state) (sym (same l k h).kind)) p a fs h r

-- what holds of items one by one
items_by : {L : ℕ → ℕ → Type 0} {R : Line → Line → Type 0} {Q : Item → Item → Type 0} {ns ms : Nodes} → ((t u : Node) → Formed grammar.Item t → Twin L R t u → Q (item_of t) (item_of u))
    → (n : ℕ) → FormedAll (copies n grammar.Item) ns → Twins L R ns ms → Forall₂ Q (map item_of (nodes ns)) (map item_of (nodes ms))
unfolding nodes copies
items_by item zero none_due no_twin = nil₂
items_by item (suc n) (one_due f fs) (and_twin h r) = cons₂ (item _ _ f h) (items_by item n fs r)

-- ------------------------------------------------------------ models

-- the model of items one behind another
abbrev pub items_of : Nodes → Model
items_of ns = build (map item_of (nodes ns))

abbrev AnyPair : {A : Type 0} → A → A → Type 0
AnyPair a b = Unit

-- fields, of which F holds, and the same events
abbrev pub ItemHeads : (Field → Field → Type 0) → Item → Item → Type 0
ItemHeads F = ItemBy F AnyPair AnyPair AnyPair

abbrev pub Heads : (Field → Field → Type 0) → Model → Model → Type 0
Heads F = ModelBy F AnyPair AnyPair AnyPair

module _ {L : ℕ → ℕ → Type 0} {R : Line → Line → Type 0} {Free : Type 0} (same : (l k : Line) → R l k → SameRecord Free l k) (F : Field → Field → Type 0)
    (field : (t u : Node) → Formed grammar.Field t → Twin L R t u → F (field_of t) (field_of u)) where
  pub item_heads : {t u : Node} → Formed grammar.Item t → Twin L R t u → ItemHeads F (item_of t) (item_of u)
  item_heads = item_twin same F AnyPair AnyPair AnyPair field (λ ns ms q. tt) (λ t u q. tt) (λ i j l k ps qs e p fs q r. tt)

  pub heads_of : {ns ms : Nodes} (n : ℕ) → FormedAll (copies n grammar.Item) ns → Twins L R ns ms → Heads F (items_of ns) (items_of ms)
  heads_of n f h = build_by (items_by (λ t u f q. item_heads f q) n f h)

-- where the fields have the same heads and the events are the same, both models tell the same of every name
pub every_field : (S : Setting) → Forall₂ Head S.left.fields S.right.fields → (x : Name) → SameField S x
unfolding field_named
every_field S h x = last_like (λ f. f.name) (λ f. f.name) (λ f g q. q.name) x h

pub every_event : (S : Setting) → S.left.events ≡ S.right.events → (x : Name) → SameEvent S x
unfolding event_named
every_event S e x = rw e

pub all_named : (S : Setting) → ((x : Name) → SameField S x) → ((x : Name) → SameEvent S x) → (l k : Line) → SameRecord S.Free l k → SameNamed S l k
all_named S same_field same-event l k h = record { same = h; field = λ _. same_field l.name; event = λ _. same-event l.name }

module _ {S : Setting} where
  field_twin : (t u : Node) → Formed grammar.Field t → SettingTwin S t u → FieldLike S (field_of t) (field_of u)
  unfolding field_of
  field_twin t u (formed {i = i} a p fs) (twin n h r) =
      record {
        head = head_same (formed {i = i} a p fs) (twin_map (λ l k q. q.same) (twin n h r));
        nspan = ap (λ (s : List ℕ). get_or s 0 0) h.same.spans;
        default = maybe_twin 1 (nodes_twins r);
        same_field = h.field (inr (omega (arith, a)));
      }

  entry_twin : (i j : ℕ) (l k : Line) (ps qs : Nodes) → l.kind ≡ kinds.entry → Parted l → FormedAll (sorts l.parts) ps → SameNamed S l k → Twins S.Lines (SameNamed S) ps qs
      → EntryLike S (entry_of (node i l ps)) (entry_of (node j k qs))
  unfolding entry_of sorts
  entry_twin i j l k ps qs e p fs h r =
      let m = parts l kinds.entry p e in
      let q : k.parts ≡ (m.0, grammar.Param) ∷ (m.1.0, grammar.Clause) ∷ (m.1.1.0, grammar.Stmt) ∷ [] = sym h.same.parts ∙ m.1.1.1 in
      rw (m.1.1.1, q)
      (record {
        params = params_same _ m.0 (rw m.1.1.1 at fs) (twins_map (λ l k q. q.same) r);
        clauses = each_clauses (map₂ clause_of clause_of (λ t u h. clause_twin h) (take₂ m.1.0 (drop₂ m.0 (nodes_twins r))));
        body = map₂ stmt_of stmt_of (λ t u h. stmt_twin h) (drop₂ (m.0 + m.1.0) (nodes_twins r));
      })

  pub item_like : {t u : Node} → Formed grammar.Item t → SettingTwin S t u → ItemBy (FieldLike S) (ExprLike S) (StmtLike S) (EntryLike S) (item_of t) (item_of u)
  item_like = item_twin (λ l k q. q.same) (FieldLike S) (ExprLike S) (StmtLike S) (EntryLike S) field_twin (λ ns ms q. at_twin 0 q) (λ t u q. stmt_twin q) entry_twin

  pub part_of : {ns ms : Nodes} (n : ℕ) → FormedAll (copies n grammar.Item) ns → Twins S.Lines (SameNamed S) ns ms → PartLike S (items_of ns) (items_of ms)
  part_of n f h = build_by (items_by (λ t u f q. item_like f q) n f h)

-- the parts of a contract are its items
pub contract_parts : {i : ℕ} {l : Line} {ps : Nodes} → Formed grammar.Contract (node i l ps) → (n : ℕ) × FormedAll (copies n grammar.Item) ps
unfolding sorts
contract_parts (formed {l = l} a p fs) = let m = parts l kinds.contract p (omega (arith, a)) in (m.0, rw (m.1, append-nil) at fs)

-- the items of two contracts
pub model_like : (L : ℕ → ℕ → Type 0) (line_zero : L 0 0) (Free : Type 0) {i : ℕ} {l : Line} {ps qs : Nodes}
    → Formed grammar.Contract (node i l ps) → Twins L (SameRecord Free) ps qs → ModelLike (setting_of L line_zero Free (items_of ps) (items_of qs))
model_like L line_zero Free {ps = ps} {qs = qs} f h =
    let S = setting_of L line_zero Free (items_of ps) (items_of qs) in
    let c = contract_parts f in
    let q = heads_of (λ l k q. q) Head (λ t u f q. head_same f q) c.0 c.1 h in
    part_of c.0 c.1 (twins_map (all_named S (every_field S q.fields) (every_event S q.events)) h)
