-- The record at a line that is no expression, by the line's kind. Assumes nothing.
use mathlib.Core.Path.{◌≡◌, refl, sym, ap, ◌∙◌, subst}
use mathlib.Core.List.{List, [], ◌∷◌, ◌++◌, map, append-nil}
use Prim.Native.Nat.{ℕ, suc, ◌+◌, ◌<◌, ◌≤◌}
use native.Mathlib.Omega.{arith}
use lib.ListN.{length, length-append, get_or, take, drop}
use Rattle.std.specs.Prelude.{option_map, slice_get}
use Rattle.grammar.specs.Grammar as grammar
use Rattle.sheet.specs.Held.{Flagged}
use Rattle.sheet.specs.Line.{Line}
use Rattle.sheet.specs.Load.{sorts, copies}
use Rattle.sheet.specs.Scratch.{kind_at, op_at, end_at, name_at, skip, line_count, first_count, emit_arg_count, target_count, from_count, param_count, clause_count, body_count, default_count}
use Rattle.sheet.specs.Say.{span_at}
use Rattle.sheet.specs.Tree.{Node, node, Nodes, nil as done, more as then, take_nodes}
use Rattle.sheet.proofs.Due.{length-copies}
use Rattle.rules.specs.Ast.{Set, assign_ops, Stmt, guard, bind, emit, assign, do', Clause, limits, denies, mints, after, list, nodes, expr_of, exprs_of, stmt_of, clause_of, param_of, field_of, entry_of, event_of}
use Rattle.rules.specs.Standing.{node_name, node_span, named_at, place_at, trees_from, node_at, nodes_at, expr_at, exprs_at, type_at, field_at, param_at, params_at, stmt_at, stmts_at, clause_at, clauses_at, event_at, entry_at, Loaded, Here, Row, stop, next}
use Rattle.rules.proofs.Parts.{parts, flags}
use Rattle.rules.proofs.Standing.{Stands, stands, nodes_next, nodes-length, parts_behind, row_behind, row_group, row_second, row_third, row_first, row_rest}
use Rattle.rules.proofs.Forest.{skip_add, row_join, parts_end, ends_of}
use Rattle.grammar.specs.Kinds as kinds

-- ------------------------------------------------------------ nodes

pub no_nodes : (s : List ℕ) (i : ℕ) → nodes_at s 0 i ≡ []
unfolding nodes_at take_nodes nodes
no_nodes s i = refl

pub exprs_list : (ns : Nodes) → map expr_of (nodes ns) ≡ list (exprs_of ns)
unfolding nodes exprs_of list
exprs_list done = refl
exprs_list (then n ns) = ap (λ es. expr_of n ∷ es) (exprs_list ns)

pub nodes_join : {s S : List ℕ} {σ : grammar.Sort} {a : ℕ} (b : ℕ) {i : ℕ} → Loaded s S → Row S σ a i → nodes_at s (a + b) i ≡ nodes_at s a i ++ nodes_at s b (skip S a i)
unfolding skip
nodes_join {s} b {i = i} d stop = rw (no_nodes s i, let e : 0 + b ≡ b = omega arith in e) refl
nodes_join {s} {a = suc a} b {i = i} d (next x xs) =
    rw (let e : suc a + b ≡ suc (a + b) = omega arith in e, nodes_next d (a + b) i x.within, nodes_next d a i x.within)
    (ap (λ ts. node_at s i ∷ ts) (nodes_join b d xs))

take_first : {A : Type 0} (as' bs : List A) (k : ℕ) → length as' ≡ k → take k (as' ++ bs) ≡ as'
take_first [] bs k e = rw (← e) refl
take_first (a ∷ as') bs k e = rw (← e) (ap (λ cs. a ∷ cs) (take_first as' bs (length as') refl))

drop_first : {A : Type 0} (as' bs : List A) (k : ℕ) → length as' ≡ k → drop k (as' ++ bs) ≡ bs
drop_first [] bs k e = rw (← e) refl
drop_first (a ∷ as') bs k e = rw (← e) (drop_first as' bs (length as') refl)

drop_both : {A : Type 0} (as' bs cs : List A) (j k : ℕ) → length as' ≡ j → length bs ≡ k → drop (j + k) (as' ++ (bs ++ cs)) ≡ cs
drop_both [] bs cs j k e f = rw (← e, let z : 0 + k ≡ k = omega arith in z) (drop_first bs cs k f)
drop_both (a ∷ as') bs cs j k e f = rw (← e, let z : suc (length as') + k ≡ suc (length as' + k) = omega arith in z) (drop_both as' bs cs (length as') k refl f)

module _ (i : ℕ) (l : Line) (ps : Nodes) (P Q R : List Node) where
  after_from : (a b : ℕ) → l.kind ≡ kinds.after → l.parts ≡ (a, grammar.Expr) ∷ (b, grammar.Expr) ∷ [] → nodes ps ≡ P ++ Q → length P ≡ a
      → clause_of (node i l ps) ≡ after (option_map expr_of (slice_get P 0)) (option_map expr_of (slice_get Q 0))
  unfolding clause_of
  after_from a b k p n e = rw (k, p, n, take_first P Q a e, drop_first P Q a e) refl

  entry_from_lem : (a b c : ℕ) → l.parts ≡ (a, grammar.Param) ∷ (b, grammar.Clause) ∷ (c, grammar.Stmt) ∷ [] → nodes ps ≡ P ++ (Q ++ R) → length P ≡ a → length Q ≡ b
      → entry_of (node i l ps) ≡ record { params = map param_of P; clauses = map clause_of Q; body = map stmt_of R }
  unfolding entry_of
  entry_from_lem a b c p n e f = rw (p, n, take_first P (Q ++ R) a e, drop_first P (Q ++ R) a e, take_first Q R b f, drop_both P Q R a b e f) refl

-- ------------------------------------------------------------ a line

module _ {s S : List ℕ} (d : Loaded s S) {i : ℕ} (w : i < line_count S) where
  abbrev t : Stands s S i
  t = stands d i w

  kind_is : {k : ℕ} → kind_at S i ≡ k → t.line.kind ≡ k
  kind_is e = sym t.says.kind ∙ e

  -- its name
  pub named : named_at s i ≡ name_at s S i
  unfolding named_at node_name
  named = rw t.here (sym t.spells.name)

  -- its span, where its record starts with one
  pub placed : (k : ℕ) (rs : List grammar.Rule) → kind_at S i ≡ k → (grammar.record_of k).rules ≡ grammar.span ∷ rs → place_at s i ≡ span_at s S i
  unfolding place_at node_span
  placed k rs e r = rw t.here (sym (t.spells.span rs (rw (kind_is e) r)))

  -- its parts, which are of one sort
  pub group : (σ : grammar.Sort) (m : ℕ) → t.line.parts ≡ (m, σ) ∷ []
      → (nodes t.parts ≡ nodes_at s m (suc i)) × (exprs_of t.parts ≡ exprs_at s m (suc i)) × Row S σ m (suc i) × (first_count S i ≡ m) × (skip S m (suc i) ≡ end_at S i)
  unfolding nodes_at exprs_at sorts
  group σ m e =
      let p : t.parts ≡ take_nodes m (trees_from s (suc i)) = parts_behind t ∙ rw (e, append-nil, length-copies) refl in
      (ap nodes p, ap exprs_of p, row_behind m [] t (rw e refl), t.says.first ∙ rw e refl, parts_end σ m t (rw (e, append-nil) refl))

  one_part : (σ : grammar.Sort) → t.line.parts ≡ (1, σ) ∷ [] → nodes t.parts ≡ node_at s (suc i) ∷ []
  one_part σ e = let g = group σ 1 e in g.0 ∙ nodes_next d 0 (suc i) (row_first g.2).within ∙ rw (no_nodes s (end_at S (suc i))) refl

  -- all of its parts, whose sorts are m in number
  pub all_parts : (m : ℕ) → length (sorts t.line.parts) ≡ m → (nodes t.parts ≡ nodes_at s m (suc i)) × (skip S m (suc i) ≡ end_at S i)
  unfolding nodes_at
  all_parts m e = rw (← e) (ap nodes (parts_behind t), ends_of t.held t.formed)

-- ------------------------------------------------------------ statements

module _ {s S : List ℕ} (d : Loaded s S) {i : ℕ} (h : Here S grammar.Stmt i) where
  abbrev st : Stands s S i
  st = stands d i h.within

  abbrev Told : Stmt → ℕ → Type 0
  Told stmt m = (stmt_at s i ≡ stmt) × Row S grammar.Expr m (suc i) × (skip S m (suc i) ≡ end_at S i)

  is_kind : {k : ℕ} → kind_at S i ≡ k → st.line.kind ≡ k
  is_kind e = sym st.says.kind ∙ e

  pub guard_at : kind_at S i ≡ kinds.guard → Told (guard (expr_at s (suc i))) 1
  unfolding stmt_at stmt_of expr_at
  guard_at e =
      let p = parts st.line kinds.guard st.parted (is_kind e) in
      let g = group d h.within grammar.Expr 1 p in
      (rw (st.here, is_kind e, one_part d h.within grammar.Expr p) refl, g.2, g.4)

  pub let_at : kind_at S i ≡ kinds.let' → Told (bind (name_at s S i) (expr_at s (suc i))) 1
  unfolding stmt_at stmt_of expr_at
  let_at e =
      let p = parts st.line kinds.let' st.parted (is_kind e) in
      let g = group d h.within grammar.Expr 1 p in
      (rw (st.here, is_kind e, one_part d h.within grammar.Expr p, st.spells.name) refl, g.2, g.4)

  pub emit_at : kind_at S i ≡ kinds.emit → Told (emit (name_at s S i) (list (exprs_at s (emit_arg_count S i) (suc i)))) (emit_arg_count S i)
  unfolding stmt_at stmt_of
  emit_at e =
      let p = parts st.line kinds.emit st.parted (is_kind e) in
      let g = group d h.within grammar.Expr p.0 p.1 in
      rw g.3 (rw (st.here, is_kind e, exprs_list st.parts, g.1, st.spells.name) refl, g.2, g.4)

  pub assign_at : kind_at S i ≡ kinds.assign → Told (assign (place_at s i) (get_or assign_ops (op_at S i) Set) (expr_at s (suc i)) (expr_at s (end_at S (suc i)))) 2
  unfolding stmt_at stmt_of expr_at place_at node_span
  assign_at e =
      let p = parts st.line kinds.assign st.parted (is_kind e) in
      let g = group d h.within grammar.Expr 2 p in
      let two : nodes st.parts ≡ node_at s (suc i) ∷ node_at s (end_at S (suc i)) ∷ [] =
      g.0 ∙ nodes_next d 1 (suc i) (row_first g.2).within ∙ rw (nodes_next d 0 (end_at S (suc i)) (row_first (row_rest g.2)).within, no_nodes s (end_at S (end_at S (suc i)))) refl in
      (rw (st.here, is_kind e, two, st.says.op) refl, g.2, g.4)

  pub do_at : kind_at S i ≡ kinds.do' → Told (do' (expr_at s (suc i))) 1
  unfolding stmt_at stmt_of expr_at
  do_at e =
      let p = parts st.line kinds.do' st.parted (is_kind e) in
      let g = group d h.within grammar.Expr 1 p in
      (rw (st.here, is_kind e, one_part d h.within grammar.Expr p) refl, g.2, g.4)

-- ------------------------------------------------------------ clauses

module _ {s S : List ℕ} (d : Loaded s S) {i : ℕ} (h : Here S grammar.Clause i) where
  abbrev ct : Stands s S i
  ct = stands d i h.within

  kind_of_lem : {k : ℕ} → kind_at S i ≡ k → ct.line.kind ≡ k
  kind_of_lem e = sym ct.says.kind ∙ e

  abbrev ToldC : Clause → ℕ → Type 0
  ToldC clause m = (clause_at s i ≡ clause) × Row S grammar.Expr m (suc i) × (skip S m (suc i) ≡ end_at S i)

  pub limits_at : kind_at S i ≡ kinds.limits → ToldC (limits (expr_at s (suc i))) 1
  unfolding clause_at clause_of expr_at
  limits_at e =
      let p = parts ct.line kinds.limits ct.parted (kind_of_lem e) in
      let g = group d h.within grammar.Expr 1 p in
      (rw (ct.here, kind_of_lem e, one_part d h.within grammar.Expr p) refl, g.2, g.4)

  pub denies_at : kind_at S i ≡ kinds.denies → ToldC (denies (expr_at s (suc i))) 1
  unfolding clause_at clause_of expr_at
  denies_at e =
      let p = parts ct.line kinds.denies ct.parted (kind_of_lem e) in
      let g = group d h.within grammar.Expr 1 p in
      (rw (ct.here, kind_of_lem e, one_part d h.within grammar.Expr p) refl, g.2, g.4)

  pub mints_at : kind_at S i ≡ kinds.mints → ToldC mints 0
  unfolding clause_at clause_of sorts copies skip
  mints_at e =
      let p = parts ct.line kinds.mints ct.parted (kind_of_lem e) in
      (rw (ct.here, kind_of_lem e) refl, stop, parts_end grammar.Expr 0 ct (rw p refl))

  -- `after`: a target and a `from`, each of which may be there
  pub after_at : kind_at S i ≡ kinds.after
      → (clause_at s i ≡ after (option_map expr_of (slice_get (nodes_at s (target_count S i) (suc i)) 0)) (option_map expr_of (slice_get (nodes_at s (from_count S i) (skip S (target_count S i) (suc i))) 0)))
      × Row S grammar.Expr (target_count S i + from_count S i) (suc i)
      × (skip S (target_count S i + from_count S i) (suc i) ≡ end_at S i)
      × (target_count S i ≤ 1)
      × (from_count S i ≤ 1)
  unfolding clause_at clause_of sorts
  after_at e =
      let p = parts ct.line kinds.after ct.parted (kind_of_lem e) in
      let g = p.1.1 in
      let q = flags ct.line kinds.after ct.parted (kind_of_lem e) in
      let f = subst (Flagged (grammar.flag grammar.Expr ∷ grammar.flag grammar.Expr ∷ [])) (sym q.1 ∙ g) q.2 in
      let a : target_count S i ≡ p.0 = ct.says.first ∙ rw g refl in
      let b : from_count S i ≡ p.1.0 = ct.says.second ∙ rw g refl in
      let r = row_group (p.0, grammar.Expr) ((p.1.0, grammar.Expr) ∷ []) ct g in
      let u = row_second (p.0, grammar.Expr) (p.1.0, grammar.Expr) [] ct g in
      let all = all_parts d h.within (p.0 + p.1.0) (rw (g, append-nil, length-append, length-copies, length-copies) refl) in
      let n = all.0 ∙ nodes_join p.1.0 d r in
      let l = nodes-length d r in
      rw (a, b) (
        rw ct.here (after_from i ct.line ct.parts (nodes_at s p.0 (suc i)) (nodes_at s p.1.0 (skip S p.0 (suc i))) [] p.0 p.1.0 (kind_of_lem e) g n l),
        row_join r u,
        all.1,
        f.0,
        f.1.0,
      )

-- ------------------------------------------------------------ entries, events, fields, parameters

-- an entry at line i, which has a parameters, b clauses and c statements
pub record EntryParts (s S : List ℕ) (i a b c : ℕ) : Type 0 where
  pub params : Row S grammar.Param a (suc i)
  pub clauses : Row S grammar.Clause b (skip S a (suc i))
  pub body : Row S grammar.Stmt c (skip S b (skip S a (suc i)))
  pub ends : skip S c (skip S b (skip S a (suc i))) ≡ end_at S i
  pub is : entry_at s i ≡ record { params = params_at s a (suc i); clauses = clauses_at s b (skip S a (suc i)); body = stmts_at s c (skip S b (skip S a (suc i))) }

module _ {s S : List ℕ} (d : Loaded s S) {i : ℕ} (w : i < line_count S) where
  abbrev et : Stands s S i
  et = stands d i w

  pub entry_at_lem : kind_at S i ≡ kinds.entry → EntryParts s S i (param_count S i) (clause_count S i) (body_count S i)
  unfolding entry_at entry_of params_at clauses_at stmts_at sorts
  entry_at_lem e =
      let p = parts et.line kinds.entry et.parted (sym et.says.kind ∙ e) in
      let a = p.0 in
      let b = p.1.0 in
      let c = p.1.1.0 in
      let g = p.1.1.1 in
      let A : param_count S i ≡ a = et.says.first ∙ rw g refl in
      let B : clause_count S i ≡ b = et.says.second ∙ rw g refl in
      let C : body_count S i ≡ c = et.says.third ∙ rw g refl in
      let x = row_group (a, grammar.Param) _ et g in
      let y = row_second (a, grammar.Param) (b, grammar.Clause) _ et g in
      let z = row_third (a, grammar.Param) (b, grammar.Clause) (c, grammar.Stmt) [] et g in
      let j = skip S a (suc i) in
      let k = skip S b j in
      let all = all_parts d w (a + (b + c)) (rw (g, append-nil, length-append, length-append, length-copies, length-copies, length-copies) refl) in
      let n : nodes et.parts ≡ nodes_at s a (suc i) ++ (nodes_at s b j ++ nodes_at s c k) = all.0 ∙ nodes_join (b + c) d x ∙ ap (λ ts. nodes_at s a (suc i) ++ ts) (nodes_join c d y) in
      let ends : skip S c k ≡ end_at S i = sym (skip_add S a (b + c) (suc i) ∙ skip_add S b c j) ∙ all.1 in
      rw (A, B, C)
      (record {
        params = x;
        clauses = y;
        body = z;
        ends = ends;
        is = rw et.here (entry_from_lem i et.line et.parts (nodes_at s a (suc i)) (nodes_at s b j) (nodes_at s c k) a b c g n (nodes-length d x) (nodes-length d y));
      })

  pub event_at_lem : kind_at S i ≡ kinds.event → (event_at s i ≡ record { name = name_at s S i; params = params_at s (param_count S i) (suc i) }) × Row S grammar.Param (param_count S i) (suc i)
  unfolding event_at event_of params_at
  event_at_lem e =
      let p = parts et.line kinds.event et.parted (sym et.says.kind ∙ e) in
      let g = group d w grammar.Param p.0 p.1 in
      rw g.3 (rw (et.here, g.0, et.spells.name) refl, g.2)

  -- a parameter or a field, and its type
  pub param_at_lem : kind_at S i ≡ kinds.param → (param_at s i ≡ record { name = name_at s S i; ty = type_at s (suc i) }) × Here S grammar.Ty (suc i)
  unfolding param_at param_of type_at
  param_at_lem e =
      let p = parts et.line kinds.param et.parted (sym et.says.kind ∙ e) in
      (rw (et.here, one_part d w grammar.Ty p, et.spells.name) refl, row_first (group d w grammar.Ty 1 p).2)

  pub field_at_lem : kind_at S i ≡ kinds.field
      → (field_at s i ≡ record { name = name_at s S i; nspan = place_at s i; ty = type_at s (suc i); default = option_map expr_of (slice_get (nodes_at s (default_count S i) (end_at S (suc i))) 0) })
      × Here S grammar.Ty (suc i)
      × Row S grammar.Expr (default_count S i) (end_at S (suc i))
      × (default_count S i ≤ 1)
  unfolding field_at field_of type_at place_at node_span sorts skip copies
  field_at_lem e =
      let k = sym et.says.kind ∙ e in
      let p = parts et.line kinds.field et.parted k in
      let q = flags et.line kinds.field et.parted k in
      let z : q.0 ≡ (p.0, grammar.Expr) ∷ [] = cc (p.1, q.1) in
      let f = subst (Flagged (grammar.span ∷ grammar.name ∷ grammar.flag grammar.Expr ∷ [])) z q.2 in
      let r = row_group (1, grammar.Ty) _ et p.1 in
      let u = row_second (1, grammar.Ty) (p.0, grammar.Expr) [] et p.1 in
      let all = all_parts d w (suc p.0) (rw p.1 (ap suc (ap length (append-nil (copies p.0 grammar.Expr)) ∙ length-copies p.0 grammar.Expr))) in
      let n : nodes et.parts ≡ node_at s (suc i) ∷ nodes_at s p.0 (end_at S (suc i)) = all.0 ∙ nodes_next d p.0 (suc i) (row_first r).within in
      let m : default_count S i ≡ p.0 = et.says.second ∙ rw p.1 refl in
      rw m (rw (et.here, n, et.spells.name) refl, row_first r, u, f.0)

-- ------------------------------------------------------------ rows

-- the statements, clauses or parameters of a row, one by one
module _ {s S : List ℕ} (d : Loaded s S) (m : ℕ) {i : ℕ} (w : i < line_count S) where
  pub stmts_next : stmts_at s (suc m) i ≡ stmt_at s i ∷ stmts_at s m (end_at S i)
  unfolding stmts_at stmt_at
  stmts_next = rw (nodes_next d m i w) refl

  pub clauses_next : clauses_at s (suc m) i ≡ clause_at s i ∷ clauses_at s m (end_at S i)
  unfolding clauses_at clause_at
  clauses_next = rw (nodes_next d m i w) refl

  pub params_next : params_at s (suc m) i ≡ param_at s i ∷ params_at s m (end_at S i)
  unfolding params_at param_at
  params_next = rw (nodes_next d m i w) refl

pub no_stmts : (s : List ℕ) (i : ℕ) → stmts_at s 0 i ≡ []
unfolding stmts_at
no_stmts s i = rw (no_nodes s i) refl

pub no_clauses : (s : List ℕ) (i : ℕ) → clauses_at s 0 i ≡ []
unfolding clauses_at
no_clauses s i = rw (no_nodes s i) refl

pub no_params : (s : List ℕ) (i : ℕ) → params_at s 0 i ≡ []
unfolding params_at
no_params s i = rw (no_nodes s i) refl
