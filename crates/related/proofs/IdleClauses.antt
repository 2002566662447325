-- Request 8: items that are the same but for their lines, and for clauses that no rule reads, come to the same result. Assumes nothing.
use mathlib.Core.Path.{◌≡◌, refl, sym, ap, ap₂, ◌∙◌}
use mathlib.Core.List.Forall₂.{cons as cons₂}
use mathlib.Core.List.Forall₂.{nil as nil₂}
use mathlib.Core.List.{List, [], ◌∷◌, map, append-nil, Forall₂}
use Prim.Native.Nat.{ℕ, zero, suc, ◌-◌}
use native.Mathlib.Omega.{arith}
use lib.ListN.{get_or, take, drop}
use lib.Seq.{drop-drop}
use Rattle.grammar.specs.Grammar as grammar
use Rattle.sheet.specs.Line.{Line}
use Rattle.sheet.specs.Load.{copies, sorts}
use Rattle.sheet.specs.Tree.{Node, node, Nodes, nil, more, before, tree_count}
use Rattle.sheet.specs.Held.{Formed, formed, FormedAll, none_due, one_due}
use Rattle.sheet.proofs.Paired.{map₂}
use Rattle.sheet.proofs.Twins.{twin_map, MovedTwin, MovedTwins}
use Rattle.sheet.proofs.Trees.{all_formed, first_formed}
use Rattle.rules.specs.Text.{Name}
use Rattle.rules.specs.Ast.{Expr, Field, Entry, Stmt, entry, nodes, param_of, clause_of, stmt_of, item_of}
use Rattle.rules.specs.Asking.{fresh}
use Rattle.rules.specs.Model.{Model}
use Rattle.rules.specs.Check.{check}
use Rattle.rules.proofs.Parts.{parts}
use Rattle.related.proofs.Alike.{Setting}
use Rattle.related.proofs.Compared.{renumbered, check_renumbered}
use Rattle.related.proofs.Like.{Head, SameField, ExprLike}
use Rattle.related.proofs.LikeCheck.{FieldLike}
use Rattle.related.proofs.LikeEntries.{IdleClause, ClausesLike, c_nil, c_cons, c_skip, EntryLike}
use Rattle.related.proofs.LikeStatements.{SameEvent, StmtLike}
use Rattle.related.proofs.TwinExprs.{SettingTwin, nodes_twins, stmt_twin, clause_twin}
use Rattle.related.proofs.TwinItems.{head_same, all_params, ItemBy, entry~, build_by, items_of, ItemHeads, item_heads, every_field, every_event, all_named, item_like}
use Rattle.grammar.specs.Kinds as kinds

-- ------------------------------------------------------------ the parts of an entry

-- the trees behind its line l: parameters, clauses and statements
pub record EntryTrees (l : Line) (ps : Nodes) : Type 0 where
  pub params : Nodes
  pub clauses : Nodes
  pub body : Nodes
  pub all : ps ≡ before params (before clauses body)
  pub counts : l.parts ≡ (tree_count params, grammar.Param) ∷ (tree_count clauses, grammar.Clause) ∷ (tree_count body, grammar.Stmt) ∷ []
  pub kind : l.kind ≡ kinds.entry
  pub formed : FormedAll (copies (tree_count params) grammar.Param) params

three : {a b c x y z : ℕ} → a ≡ x → b ≡ y → c ≡ z
    → ◌≡◌ {A = List (ℕ × grammar.Sort)} ((a, grammar.Param) ∷ (b, grammar.Clause) ∷ (c, grammar.Stmt) ∷ []) ((x, grammar.Param) ∷ (y, grammar.Clause) ∷ (z, grammar.Stmt) ∷ [])
three p q r = rw (p, q, r)

pub entry_parts : {i : ℕ} {l : Line} {ps : Nodes} → Formed grammar.Item (node i l ps) → l.kind ≡ kinds.entry → EntryTrees l ps
unfolding sorts
entry_parts (formed {l = l} a p fs) e =
    let m = parts l kinds.entry p e in
    let u = first_formed grammar.Param _ m.0 (rw (m.1.1.1, append-nil) at fs) in
    let v = first_formed grammar.Clause _ m.1.0 u.5 in
    let w = all_formed grammar.Stmt m.1.1.0 v.5 in
    record {
      params = u.0;
      clauses = v.0;
      body = v.1;
      all = u.2 ∙ ap (before u.0) v.2;
      counts = m.1.1.1 ∙ three u.3 v.3 w.0;
      kind = e;
      formed = u.4;
    }

before_same : (a b x y : Nodes) → tree_count a ≡ tree_count x → before a b ≡ before x y → (a ≡ x) × (b ≡ y)
unfolding before
before_same nil b nil y n e = (refl, e)
before_same nil b (more u x) y n e = absurd (omega arith)
before_same (more t a) b nil y n e = absurd (omega arith)
before_same (more t a) b (more u x) y n e = let q = before_same a b x y (omega arith) (cc) in (ap₂ more (cc) q.0, q.1)

-- trees that are as many are those
pub entry-trees : {l : Line} {ps : Nodes} (p : EntryTrees l ps) (a b c : Nodes) → ps ≡ before a (before b c)
    → l.parts ≡ (tree_count a, grammar.Param) ∷ (tree_count b, grammar.Clause) ∷ (tree_count c, grammar.Stmt) ∷ [] → (p.params ≡ a) × (p.clauses ≡ b) × (p.body ≡ c)
entry-trees p a b c e n =
    let at : ℕ → List (ℕ × grammar.Sort) → ℕ = λ i gs. (get_or gs i (0, grammar.Contract)).0 in
    let q = before_same p.params _ a _ (ap (at 0) (sym p.counts ∙ n)) (sym p.all ∙ e) in
    let r = before_same p.clauses _ b _ (ap (at 1) (sym p.counts ∙ n)) q.1 in
    (q.0, r.0, r.1)

take_nodes_lem : (a b : Nodes) → take (tree_count a) (nodes (before a b)) ≡ nodes a
unfolding nodes before
take_nodes_lem nil b = refl
take_nodes_lem (more t a) b = ap (λ ns. t ∷ ns) (take_nodes_lem a b)

drop_nodes_lem : (a b : Nodes) → drop (tree_count a) (nodes (before a b)) ≡ nodes b
unfolding nodes before
drop_nodes_lem nil b = refl
drop_nodes_lem (more t a) b = drop_nodes_lem a b

-- the entry of these parts
abbrev entry_in : (params clauses body : Nodes) → Entry
entry_in ps cs ss = record { params = map param_of (nodes ps); clauses = map clause_of (nodes cs); body = map stmt_of (nodes ss) }

entry-is : (i : ℕ) (l : Line) (ps : Nodes) (p : EntryTrees l ps) → item_of (node i l ps) ≡ entry (entry_in p.params p.clauses p.body)
unfolding item_of
entry-is i l ps p =
    let z : l.kind - kinds.state ≡ kinds.entry - kinds.state = omega (arith, p.kind) in
    let a = p.params in
    let c = p.clauses in
    let b = p.body in
    rw (z, p.counts, p.all, ← drop-drop (tree_count c) (tree_count a) (nodes (before a (before c b))), take_nodes_lem a (before c b), drop_nodes_lem a (before c b), take_nodes_lem c b, drop_nodes_lem c b)

-- ------------------------------------------------------------ items in pairs

-- clauses one by one, but for idle ones that only the first sheet has
pub data Skips : Nodes → Nodes → Type 0 where
  s_nil : Skips nil nil
  s_twin : {t u : Node} {ns ms : Nodes} → MovedTwin t u → Skips ns ms → Skips (more t ns) (more u ms)
  s_skip : {t : Node} {ns ms : Nodes} → IdleClause (clause_of t) → Skips ns ms → Skips (more t ns) ms

-- entries with the same parameters and statements, and such clauses
pub record EntryPair (l k : Line) (ps qs : Nodes) : Type 0 where
  pub left : EntryTrees l ps
  pub right : EntryTrees k qs
  pub params : MovedTwins left.params right.params
  pub clauses : Skips left.clauses right.clauses
  pub body : MovedTwins left.body right.body

pub data Pairs : Nodes → Nodes → Type 0 where
  p_nil : Pairs nil nil
  p_twin : {t u : Node} {ns ms : Nodes} → MovedTwin t u → Pairs ns ms → Pairs (more t ns) (more u ms)
  p_entry : {i j : ℕ} {l k : Line} {ps qs ns ms : Nodes} → EntryPair l k ps qs → Pairs ns ms → Pairs (more (node i l ps) ns) (more (node j k qs) ms)

-- what holds of the items of a pair, by the law for twins and the law for entries
pairs_by : {F : Field → Field → Type 0} {E : Expr → Expr → Type 0} {B : Stmt → Stmt → Type 0} {N : Entry → Entry → Type 0} {ns ms : Nodes}
    → ((t u : Node) → Formed grammar.Item t → MovedTwin t u → ItemBy F E B N (item_of t) (item_of u))
    → ((l k : Line) (ps qs : Nodes) (h : EntryPair l k ps qs) → N (entry_in h.left.params h.left.clauses h.left.body) (entry_in h.right.params h.right.clauses h.right.body))
    → (n : ℕ) → FormedAll (copies n grammar.Item) ns → Pairs ns ms → Forall₂ (ItemBy F E B N) (map item_of (nodes ns)) (map item_of (nodes ms))
unfolding nodes copies
pairs_by item pair zero none_due p_nil = nil₂
pairs_by item pair (suc n) (one_due f fs) (p_twin h r) = cons₂ (item _ _ f h) (pairs_by item pair n fs r)
pairs_by item pair (suc n) (one_due f fs) (p_entry {i = i} {j = j} h r) = rw (entry-is i _ _ h.left, entry-is j _ _ h.right) (cons₂ (entry~ (pair _ _ _ _ h)) (pairs_by item pair n fs r))

heads_pairs : {ns ms : Nodes} (n : ℕ) → FormedAll (copies n grammar.Item) ns → Pairs ns ms → Forall₂ (ItemHeads Head) (map item_of (nodes ns)) (map item_of (nodes ms))
heads_pairs = pairs_by (λ t u f h. item_heads (λ l k q. q) Head (λ t u f q. head_same f q) f h) (λ l k ps qs h. tt)

module _ (m n : Model) (same_field : (x : Name) → SameField (renumbered m n) x) (same-event : (x : Name) → SameEvent (renumbered m n) x) where
  abbrev S : Setting
  S = renumbered m n

  named_twin : {t u : Node} → MovedTwin t u → SettingTwin S t u
  named_twin h = twin_map (all_named S same_field same-event) h

  clauses_skip : {ns ms : Nodes} → Skips ns ms → ClausesLike S (map clause_of (nodes ns)) (map clause_of (nodes ms))
  unfolding nodes
  clauses_skip s_nil = c_nil
  clauses_skip (s_twin h r) = c_cons (clause_twin (named_twin h)) (clauses_skip r)
  clauses_skip (s_skip h r) = c_skip h (clauses_skip r)

  entry_pair : {l k : Line} {ps qs : Nodes} (h : EntryPair l k ps qs)
      → EntryLike S (entry_in h.left.params h.left.clauses h.left.body) (entry_in h.right.params h.right.clauses h.right.body)
  entry_pair h = record {
    params = all_params _ h.left.formed h.params;
    clauses = clauses_skip h.clauses;
    body = map₂ stmt_of stmt_of (λ t u q. stmt_twin (named_twin q)) (nodes_twins h.body);
  }

  like_pairs : {ns ms : Nodes} (k : ℕ) → FormedAll (copies k grammar.Item) ns → Pairs ns ms
      → Forall₂ (ItemBy (FieldLike S) (ExprLike S) (StmtLike S) (EntryLike S)) (map item_of (nodes ns)) (map item_of (nodes ms))
  like_pairs = pairs_by (λ t u f h. item_like f (named_twin h)) (λ l k ps qs h. entry_pair h)

-- the same number, place and message
pub idle_clauses : (ns ms : Nodes) (k : ℕ) → FormedAll (copies k grammar.Item) ns → Pairs ns ms → (fresh (check (items_of ns))).res ≡ (fresh (check (items_of ms))).res
idle_clauses ns ms k f h =
    let m = items_of ns in
    let n = items_of ms in
    let q = build_by (heads_pairs k f h) in
    check_renumbered m n (build_by (like_pairs m n (every_field (renumbered m n) q.fields) (every_event (renumbered m n) q.events) k f h))
