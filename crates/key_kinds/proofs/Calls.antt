-- The keyed calls of an entry, line by line. Assumes nothing.
use mathlib.Core.Logic.{◌≢◌}
use mathlib.Core.Path.{◌≡◌, refl, sym, ap, ◌∙◌}
use mathlib.Core.List.{List, [], ◌∷◌, ◌++◌, append_assoc, append-nil}
use mathlib.Core.Bool.{cond}
use Prim.Native.Nat.{ℕ, zero, suc, ◌+◌, ◌-◌, ◌<◌, ◌≤◌}
use native.Mathlib.Omega.{arith}
use lib.Dec.{eqb}
use lib.ListN.{length}
use borrow.Author.Tests.{ne_eqb}
use Rattle.std.specs.Prelude.{option_map, slice_get}
use Rattle.grammar.specs.Grammar as grammar
use Rattle.sheet.specs.Held.{Held, held, HeldAll, no_tree, tree, Formed, formed, FormedAll, none_due, one_due, Parted}
use Rattle.sheet.specs.Line.{Line}
use Rattle.sheet.specs.Load.{sorts, copies}
use Rattle.sheet.specs.Scratch.{kind_at, end_at, skip, call_arg_count, target_count, from_count, emit_arg_count, param_count, clause_count, body_count}
use Rattle.sheet.specs.Tree.{Node, Nodes, take_nodes}
use Rattle.sheet.proofs.Holds.{all_le, held_less}
use Rattle.rules.specs.Ast.{Expr, leaf, unary, binary, field, call, wrap, Exprs, nil, more, Clause, limits, denies, mints, after, Stmt, guard, bind, emit, assign, do', list, nodes, expr_of, exprs_of}
use Rattle.rules.specs.KeyKinds.{Keyed, keyed_here, keyed_calls, keyed_calls_all, present, clause_exprs, body_exprs, entry_exprs, keyed_in}
use Rattle.rules.specs.Standing.{expr_at, exprs_at, nodes_at, clause_at, clauses_at, stmt_at, stmts_at, entry_at, Loaded, Here, Row, stop, next}
use Rattle.rules.specs.Typing.{dot_of}
use Rattle.rules.proofs.Exprs.{by_kind}
use Rattle.rules.proofs.Forest.{joined, parts_of, Left, left_row, left_at_lem, left_over, exprs_join, skip_least}
use Rattle.rules.proofs.Walks.{all_joined}
use Rattle.rules.proofs.Parts.{stop as end', ◌also◌, pick, parts}
use Rattle.rules.proofs.Records.{entry_at_lem, guard_at, let_at, emit_at, assign_at, do_at, limits_at, denies_at, mints_at, after_at, stmts_next, clauses_next, no_stmts, no_clauses}
use Rattle.rules.proofs.Standing.{stands, exprs_next, row_first, row_rest, row_nth, row_take}
use Rattle.lookups.specs.Lines.{KindAt}
use Rattle.key_kinds.specs.Uses.{call_at}
use Rattle.grammar.specs.Kinds as kinds

-- ------------------------------------------------------------ lines

-- the keyed calls of the k lines from line i on
unfoldable pub calls_in : (s S : List ℕ) → (i k : ℕ) → List Keyed
calls_in s S i zero = []
calls_in s S i (suc k) = call_at s S i ++ calls_in s S (suc i) k

-- ... up to a line
abbrev pub calls : (s S : List ℕ) → (i end : ℕ) → List Keyed
calls s S i end = calls_in s S i (end - i)

module _ (s S : List ℕ) where
  pub calls_next : (i end : ℕ) → i < end → calls s S i end ≡ call_at s S i ++ calls s S (suc i) end
  unfolding calls_in
  calls_next i end h = ap (calls_in s S i) (let q : end - i ≡ suc (end - suc i) = omega arith in q)

  pub calls_none : (i end : ℕ) → end ≤ i → calls s S i end ≡ []
  unfolding calls_in
  calls_none i end h = ap (calls_in s S i) (let q : end - i ≡ 0 = omega arith in q)

  calls_add : (i a b : ℕ) → calls_in s S i (a + b) ≡ calls_in s S i a ++ calls_in s S (i + a) b
  unfolding calls_in
  calls_add i zero b = rw (let q : 0 + b ≡ b = omega arith in q, let q : i + 0 ≡ i = omega arith in q) refl
  calls_add i (suc a) b =
      rw (let q : suc a + b ≡ suc (a + b) = omega arith in q, let q : i + suc a ≡ suc i + a = omega arith in q, append_assoc)
      (ap (λ ks. call_at s S i ++ ks) (calls_add (suc i) a b))

  calls_split : (i j k : ℕ) → i ≤ j → j ≤ k → calls s S i k ≡ calls s S i j ++ calls s S j k
  calls_split i j k g h =
      ap (calls_in s S i) (let q : k - i ≡ (j - i) + (k - j) = omega arith in q)
      ∙ calls_add i (j - i) (k - j)
      ∙ ap (λ l. calls s S i j ++ calls_in s S l (k - j)) (let q : i + (j - i) ≡ j = omega arith in q)

  other_line : (i : ℕ) → kind_at S i ≢ kinds.call → call_at s S i ≡ []
  unfolding call_at
  other_line i h = rw (call_at, ne_eqb (kind_at S i) kinds.call h) refl

-- ------------------------------------------------------------ expressions

-- an expression's own call
abbrev own : Expr → List Keyed
own (leaf l s k) = []
own (unary l s o e) = []
own (binary l s o a b) = []
own (field l s e n m) = []
own (call l s c es) = keyed_here (dot_of c) es
own (wrap l s w e) = []

own_parts : (e : Expr) → keyed_calls e ≡ own e ++ keyed_calls_all (parts_of e)
unfolding keyed_calls keyed_calls_all parts_of
own_parts (leaf l s k) = refl
own_parts (unary l s o e) = sym (append-nil _)
own_parts (binary l s o a b) = ap (λ ks. keyed_calls a ++ ks) (sym (append-nil _))
own_parts (field l s e n m) = sym (append-nil _)
own_parts (call l s c es) = refl
own_parts (wrap l s w e) = sym (append-nil _)

calls_joined : (es fs : Exprs) → keyed_calls_all (joined es fs) ≡ keyed_calls_all es ++ keyed_calls_all fs
unfolding keyed_calls_all
calls_joined = all_joined ◌++◌ [] keyed_calls keyed_calls_all (λ ks. refl) append_assoc refl (λ e es. refl)

all_listed : (es : Exprs) → keyed_in (list es) ≡ keyed_calls_all es
unfolding keyed_calls_all keyed_in list
all_listed nil = refl
all_listed (more e es) = ap (λ ks. keyed_calls e ++ ks) (all_listed es)

keyed_append : (es fs : List Expr) → keyed_in (es ++ fs) ≡ keyed_in es ++ keyed_in fs
unfolding keyed_in
keyed_append [] fs = refl
keyed_append (e ∷ es) fs = ap (λ ks. keyed_calls e ++ ks) (keyed_append es fs) ∙ sym (append_assoc (keyed_calls e) _ _)

module _ {s S : List ℕ} (d : Loaded s S) where
  own_at : {i : ℕ} → Here S grammar.Expr i → own (expr_at s i) ≡ call_at s S i
  unfolding call_at
  own_at {i} h =
      by_kind d h (λ k e. own e ≡ cond (eqb k kinds.call) (keyed_here (dot_of (expr_at s (suc i))) (exprs_at s (call_arg_count S i) (end_at S (suc i)))) [])
      (λ k a b. rw (ne_eqb k kinds.call (omega arith)) refl) refl refl refl refl (λ k w a. rw (ne_eqb k kinds.call (omega arith)) refl)

  -- the lines of expressions
  left_calls : (k : ℕ) {i end : ℕ} {es : Exprs} → end - i ≡ k → Left s S i end es → keyed_calls_all es ≡ calls_in s S i k
  unfolding calls_in keyed_calls_all
  left_calls zero e l = rw (left_over d l (omega arith)) refl
  left_calls (suc k) {i} {end} {es} e l =
      let a = left_at_lem d l (omega arith) in
      ap keyed_calls_all a.is
      ∙ ap (λ ks. ks ++ keyed_calls_all a.rest) (own_parts (expr_at s i))
      ∙ append_assoc (own (expr_at s i)) _ _
      ∙ rw (← calls_joined (parts_of (expr_at s i)) a.rest, left_calls k (let q : end - suc i ≡ k = omega arith in q) a.inside, own_at a.here) refl

-- ------------------------------------------------------------ records with expressions

-- line i is no call, and the expressions es stand behind it
record Bare (s S : List ℕ) (i : ℕ) (es : List Expr) : Type 0 where
  count : ℕ
  row : Row S grammar.Expr count (suc i)
  ends : skip S count (suc i) ≡ end_at S i
  are : es ≡ list (exprs_at s count (suc i))
  kind : kind_at S i ≢ kinds.call

module _ {s S : List ℕ} (d : Loaded s S) where
  bare_calls : {i : ℕ} {es : List Expr} → i < end_at S i → Bare s S i es → keyed_in es ≡ calls s S i (end_at S i)
  bare_calls {i} {es} h b =
      ap keyed_in b.are
      ∙ all_listed (exprs_at s b.count (suc i))
      ∙ left_calls d (end_at S i - suc i) (rw b.ends refl) (left_row d b.row)
      ∙ sym (calls_next s S i (end_at S i) h ∙ rw (other_line s S i b.kind) refl)

  one_expr : {j : ℕ} → Here S grammar.Expr j → list (exprs_at s 1 j) ≡ expr_at s j ∷ []
  unfolding list exprs_at take_nodes exprs_of
  one_expr {j} h = rw (exprs_next d 0 j h.within) refl

  -- an expression that may be there
  maybe_expr : (a j : ℕ) → a ≤ 1 → (0 < a → Here S grammar.Expr j) → present (option_map expr_of (slice_get (nodes_at s a j) 0)) ≡ list (exprs_at s a j)
  unfolding present expr_at list exprs_at take_nodes exprs_of nodes_at nodes
  maybe_expr zero j h f = refl
  maybe_expr (suc zero) j h f = let w = (f (omega arith)).within in rw (stands d j w).next refl
  maybe_expr (suc (suc a)) j h f = absurd (omega arith)

  list-joined : (es fs : Exprs) → list (joined es fs) ≡ list es ++ list fs
  unfolding list
  list-joined = all_joined ◌++◌ [] (λ e. e ∷ []) list (λ es. refl) append_assoc refl (λ e es. refl)

  clause_bare : (i : ℕ) → Here S grammar.Clause i → Bare s S i (clause_exprs (clause_at s i ∷ []))
  unfolding clause_exprs skip list exprs_at take_nodes exprs_of
  clause_bare i h =
      pick {P = λ k. kind_at S i ≡ k → Bare s S i (clause_exprs (clause_at s i ∷ []))} {i = kinds.limits} {n = 4} (kind_at S i)
      ((λ e. let q = limits_at d h e in record { count = 1; row = q.1; ends = q.2; are = rw q.0 (sym (one_expr (row_first q.1))); kind = omega arith })
      also (λ e. let q = denies_at d h e in record { count = 1; row = q.1; ends = q.2; are = rw q.0 (sym (one_expr (row_first q.1))); kind = omega arith })
      also (λ e. let q = mints_at d h e in record { count = 0; row = q.1; ends = q.2; are = rw q.0 refl; kind = omega arith })
      also (λ e.
      let q = after_at d h e in
      let a = target_count S i in
      let b = from_count S i in
      let r = q.1 in
      record {
        count = a + b;
        row = r;
        ends = q.2;
        are =
            rw (q.0, append-nil, maybe_expr a (suc i) q.3 (λ z. row_nth 0 (omega arith) r), maybe_expr b (skip S a (suc i)) q.4 (λ z. row_nth a (omega arith) r))
            (sym (ap list (exprs_join b d (row_take a (omega arith) r)) ∙ list-joined _ _));
        kind = omega arith;
      })
      also end')
      h.kind.0 h.kind.1 refl

  stmt_bare : (i : ℕ) → Here S grammar.Stmt i → Bare s S i (body_exprs (stmt_at s i ∷ []))
  unfolding body_exprs list exprs_at take_nodes exprs_of
  stmt_bare i h =
      pick {P = λ k. kind_at S i ≡ k → Bare s S i (body_exprs (stmt_at s i ∷ []))} {i = kinds.guard} {n = 5} (kind_at S i)
      ((λ e. let q = guard_at d h e in record { count = 1; row = q.1; ends = q.2; are = rw q.0 (sym (one_expr (row_first q.1))); kind = omega arith })
      also (λ e. let q = let_at d h e in record { count = 1; row = q.1; ends = q.2; are = rw q.0 (sym (one_expr (row_first q.1))); kind = omega arith })
      also (λ e. let q = emit_at d h e in record { count = emit_arg_count S i; row = q.1; ends = q.2; are = rw q.0 (append-nil _); kind = omega arith })
      also (λ e.
      let q = assign_at d h e in
      record {
        count = 2;
        row = q.1;
        ends = q.2;
        are =
            rw (q.0, exprs_next d 1 (suc i) (row_first q.1).within)
            (ap (λ es. expr_at s (suc i) ∷ es) (sym (one_expr (row_first (row_rest q.1)))));
        kind = omega arith;
      })
      also (λ e. let q = do_at d h e in record { count = 1; row = q.1; ends = q.2; are = rw q.0 (sym (one_expr (row_first q.1))); kind = omega arith })
      also end')
      h.kind.0 h.kind.1 refl

-- ------------------------------------------------------------ rows

clause_first : (c : Clause) (cs : List Clause) → clause_exprs (c ∷ cs) ≡ clause_exprs (c ∷ []) ++ clause_exprs cs
unfolding clause_exprs
clause_first (limits e) cs = refl
clause_first (denies e) cs = refl
clause_first mints cs = refl
clause_first (after t f) cs = sym (append_assoc (present t) _ _ ∙ ap (λ es. present t ++ es) (append_assoc (present f) _ _))

stmt_first : (t : Stmt) (ts : List Stmt) → body_exprs (t ∷ ts) ≡ body_exprs (t ∷ []) ++ body_exprs ts
unfolding body_exprs
stmt_first (guard e) ts = refl
stmt_first (bind x e) ts = refl
stmt_first (emit x es) ts = sym (append_assoc es _ _)
stmt_first (assign a o t v) ts = refl
stmt_first (do' e) ts = refl

module _ {s S : List ℕ} (d : Loaded s S) where
  -- the records of a row, the m from line i on having the expressions f m i
  row_calls : {σ : grammar.Sort} (f : ℕ → ℕ → List Expr) (g : ℕ → List Expr) → ((i : ℕ) → f 0 i ≡ [])
      → ((m i : ℕ) → Here S σ i → f (suc m) i ≡ g i ++ f m (end_at S i)) → ((i : ℕ) → Here S σ i → keyed_in (g i) ≡ calls s S i (end_at S i))
      → {m i : ℕ} → Row S σ m i → keyed_in (f m i) ≡ calls s S i (skip S m i)
  unfolding skip keyed_in
  row_calls f g z n c {i = i} stop = ap keyed_in (z i) ∙ sym (calls_none s S i i (omega arith))
  row_calls f g z n c {m = suc m} {i} (next h r) =
      ap keyed_in (n m i h)
      ∙ keyed_append (g i) (f m (end_at S i))
      ∙ rw (c i h, row_calls f g z n c r) refl
      ∙ sym (calls_split s S i (end_at S i) (skip S m (end_at S i)) (omega (arith, h.after)) (omega (arith, skip_least r)))

  clauses_calls : {m i : ℕ} → Row S grammar.Clause m i → keyed_in (clause_exprs (clauses_at s m i)) ≡ calls s S i (skip S m i)
  unfolding clause_exprs
  clauses_calls =
      row_calls (λ m i. clause_exprs (clauses_at s m i)) (λ i. clause_exprs (clause_at s i ∷ [])) (λ i. ap clause_exprs (no_clauses s i))
      (λ m i h. ap clause_exprs (clauses_next d m h.within) ∙ clause_first (clause_at s i) (clauses_at s m (end_at S i)))
      (λ i h. bare_calls d h.after (clause_bare d i h))

  stmts_calls : {m i : ℕ} → Row S grammar.Stmt m i → keyed_in (body_exprs (stmts_at s m i)) ≡ calls s S i (skip S m i)
  unfolding body_exprs
  stmts_calls =
      row_calls (λ m i. body_exprs (stmts_at s m i)) (λ i. body_exprs (stmt_at s i ∷ [])) (λ i. ap body_exprs (no_stmts s i))
      (λ m i h. ap body_exprs (stmts_next d m h.within) ∙ stmt_first (stmt_at s i) (stmts_at s m (end_at S i)))
      (λ i h. bare_calls d h.after (stmt_bare d i h))

-- ------------------------------------------------------------ parameters

-- where the sort is due, no expression stands
abbrev Quiet : grammar.Sort → Type 0
Quiet σ = (kinds.param ≤ grammar.first_kind σ) × (grammar.first_kind σ + length (grammar.records_for σ) ≤ kinds.limits)

abbrev Quiets : List grammar.Sort → Type 0
Quiets [] = Unit
Quiets (σ ∷ σs) = Quiet σ × Quiets σs

quiet_copies : (k : ℕ) → Quiets (copies k grammar.Arg ++ [])
unfolding copies
quiet_copies zero = tt
quiet_copies (suc k) = ((omega arith, omega arith), quiet_copies k)

quiet_parts : (l : Line) → kinds.param ≤ l.kind → l.kind < kinds.limits → Parted l → Quiets (sorts l.parts)
unfolding sorts copies
quiet_parts l a b p =
    pick {P = λ k. l.kind ≡ k → Quiets (sorts l.parts)} {i = kinds.param} {n = 4} l.kind
    ((λ e. rw (parts l kinds.param p e) ((omega arith, omega arith), tt))
    also (λ e. let g = parts l kinds.type p e in rw g.1 (quiet_copies g.0))
    also (λ e. rw (parts l kinds.num p e) tt)
    also (λ e. rw (parts l kinds.mofn p e) tt)
    also end')
    a b refl

module _ (s S : List ℕ) where
  mutual
    quiet_tree : {n i : ℕ} {t : Node} {σ : grammar.Sort} → Held S n i t → Formed σ t → Quiet σ → calls s S i (end_at S i) ≡ []
    quiet_tree {i = i} (held {l = l} h y r) (formed a p fs) q =
        let k : kind_at S i ≡ l.kind = y.kind in
        calls_next s S i (end_at S i) (all_le r)
        ∙ rw (other_line s S i (λ z. absurd (omega (arith, k, z, a.1, q.1))), quiet_trees r fs (quiet_parts l (omega (arith, a.0, q.0)) (omega (arith, a.1, q.1)) p)) refl

    quiet_trees : {n i j : ℕ} {ts : Nodes} {σs : List grammar.Sort} → HeldAll S n i j ts → FormedAll σs ts → Quiets σs → calls s S i j ≡ []
    quiet_trees {i = i} no_tree none_due q = calls_none s S i i (omega arith)
    quiet_trees {i = i} {j} (tree h r) (one_due f fs) q =
        calls_split s S i (end_at S i) j (omega (arith, held_less h)) (all_le r) ∙ rw (quiet_tree h f q.0, quiet_trees r fs q.1) refl

params_calls : {s S : List ℕ} {m i : ℕ} → Loaded s S → Row S grammar.Param m i → calls s S i (skip S m i) ≡ []
unfolding keyed_in
params_calls {s} {S} d r = sym (row_calls d (λ m i. []) (λ i. []) (λ i. refl) (λ m i h. refl) one r)
  where
    one : (i : ℕ) → Here S grammar.Param i → [] ≡ calls s S i (end_at S i)
    one i h =
        let t = stands d i h.within in
        sym (quiet_tree s S {σ = grammar.Param} (held h.within t.says t.held) (formed (rw (← t.says.kind) h.kind) t.parted t.formed) (omega arith, omega arith))

-- ------------------------------------------------------------ entries

pub entry_calls : {s S : List ℕ} {e : ℕ} → Loaded s S → KindAt kinds.entry S e → keyed_in (entry_exprs (entry_at s e)) ≡ calls s S (suc e) (end_at S e)
unfolding entry_exprs
entry_calls {s} {S} {e} d h =
    let p = entry_at_lem d h.within h.kind in
    let j = skip S (param_count S e) (suc e) in
    let k = skip S (clause_count S e) j in
    let a = skip_least p.params in
    let b = skip_least p.clauses in
    let c = skip_least p.body in
    ap (λ x. keyed_in (entry_exprs x)) p.is
    ∙ keyed_append (clause_exprs (clauses_at s (clause_count S e) j)) (body_exprs (stmts_at s (body_count S e) k))
    ∙ rw (clauses_calls d p.clauses, stmts_calls d p.body, p.ends) refl
    ∙ sym (calls_split s S j k (end_at S e) (omega (arith, b)) (omega (arith, c, p.ends)))
    ∙ sym (calls_split s S (suc e) j (end_at S e) (omega (arith, a)) (omega (arith, b, c, p.ends)) ∙ rw (params_calls d p.params) refl)
