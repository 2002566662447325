-- The statements of an entry: what each return and each call needs. Assumes nothing.
use mathlib.Core.Logic.{◌≢◌}
use mathlib.Core.Path.{◌≡◌, refl, sym, ap, ◌∙◌}
use mathlib.Core.List.{List, [], ◌∷◌, ◌++◌, append-nil, map-append}
use mathlib.Core.Bool.{Bool, true, false, not}
use Prim.Native.Nat.{ℕ, suc, ◌+◌, ◌-◌, ◌<◌, ◌≤◌}
use native.Mathlib.Numerals.{add-one}
use native.Mathlib.Omega.{arith}
use lib.Dec.{eqb}
use lib.ListN.{length, get_or}
use lib.Seq.{get_or-set_same}
use borrow.Author.Tests.{eq-eqb, ne_eqb, eqb-true, eqb-false}
use Rattle.std.specs.Prelude.{Result, Ok, Err, Option, Some, None}
use Rattle.grammar.specs.Grammar as grammar
use Rattle.sheet.specs.Scratch.{kind_at, name_at, end_at, skip, emit_arg_count}
use Rattle.sheet.specs.Tree.{Node, node}
use Rattle.sheet.proofs.Tested.{tested}
use Rattle.rules.specs.Ast.{Stmt, guard, bind, emit, assign, do', line, line_after, list}
use Rattle.rules.specs.Asking.{Rule, code, code_r, Res, ok, ◌>>=◌, ◌>>◌}
use Rattle.rules.specs.declared.ty.Ty.{Ty}
use Rattle.rules.specs.declared.ty.Ty.TheVariants.{Collection}
use Rattle.rules.specs.Kept.{Table, kept, ty_of_mark, ty_from}
use Rattle.rules.specs.Types.{eq_ty}
use Rattle.rules.specs.Typing as typing
use Rattle.rules.specs.Typing.{ty_of, typing, bound}
use Rattle.rules.specs.Statements.{check_stmt_types, expect_predicate, refuse_name_recipient}
use Rattle.rules.specs.Check.{check_local, check_body}
use Rattle.rules.specs.Standing.{node_at, nodes_at, expr_at, exprs_at, stmt_at, stmts_at, Loaded, Here, Row}
use Rattle.rules.proofs.AnyTable.{from_table, first_time}
use Rattle.rules.proofs.Binding.{and_then, kept_bind, kept-length, then_ok, kept_assoc, refused_behind}
use Rattle.rules.proofs.Parts.{stop as end', ◌also◌, pick}
use Rattle.rules.proofs.Records.{guard_at, let_at, emit_at, assign_at, do_at, no_stmts, stmts_next}
use Rattle.rules.proofs.Rows.{row_some}
use Rattle.rules.proofs.Standing.{loaded_sheet, Stands, stands, row_first, nodes_last, row_rest}
use Rattle.refusals.specs.Answers.{expected}
use Rattle.refusals.proofs.Answers.{expects}
use denote.Enum.Bare.{sameb}
use Rattle.rules.specs.contracts.ty.Ty.{the_type}
use Rattle.rules.proofs.Keeps.{code_tells}
use Rattle.rules.proofs.Same.{told_ty}
use Rattle.lookups.specs.Found.{node_kind, of_kind}
use Rattle.refusals.specs.Refusal.{refusal_of, done_of}
use Rattle.refusals.specs.declared.refusal.Refusal.{Refusal}
use Rattle.refusals.specs.declared.refusal.Refusal.TheVariants.{CollectionLocal}
use Rattle.env.specs.Force.{params_in, env_of, local_of, named_end, lets, ends_in, InForce, bind_next}
use Rattle.env.proofs.Bound.{bound_in_force}
use Rattle.env.proofs.Mentioned.{not_stale_at}
use Rattle.env.specs.declared.env.Env.{Env}
use Rattle.typing.specs.Asks.{Asks, KindIn, Types, Does}
use Rattle.typing.proofs.Asking.{asks_line}
use Rattle.typing.proofs.Calls.{did, stopped, does_length}
use Rattle.typing.proofs.Operators.{gave}
use Rattle.typing.proofs.Doing.{does_then, does_cut, does_nothing}
use Rattle.statements.specs.Checked.{StmtIn, StmtOf}
use Rattle.emits.specs.Emit.{emit_rule}
use Rattle.checking.specs.Walk.{no_let, a_let, RoomTyped, stmt_rule, BodyStmt, Binds, StmtDoes, BodyAt}
use Rattle.checking.proofs.Locals.{lets-append, OnTyped, on_typed}
use Rattle.grammar.specs.Kinds as kinds

-- ------------------------------------------------------------ a statement

-- the table has the type that was answered, where no bound `let` ends behind the line
marked_by : (s S : List ℕ) (env : Env) (T : Table) (i : ℕ) (t : Ty) (U : Table) → Loaded s S → InForce S env → Asks S T i → env.next ≤ i
    → kept (ty_of (env_of s T env) (expr_at s i)) T ≡ record { res = ok t; table = U } → ty_of_mark (get_or U i 0) ≡ Some t
unfolding code_r
marked_by s S env T i t U loaded force h l e = by_cases (ty_of_mark (get_or T i 0)) refl
  where
    here : line (expr_at s i) ≡ i
    here = asks_line s S env T i loaded force h

    by_cases : (o : Option Ty) → ty_of_mark (get_or T i 0) ≡ o → ty_of_mark (get_or U i 0) ≡ Some t
    by_cases (Some u) q =
        let f = sym e ∙ from_table (env_of s T env) (expr_at s i) T u (not_stale_at s S env T i loaded force h.here l) (rw here q) in
        let z : ◌≡◌ {A = Res Ty} (ok t) (ok u) = ap (λ o. o.res) f in
        let y : t ≡ u = cc in
        let w : U ≡ T = ap (λ o. o.table) f in
        rw (w, y) q
    by_cases None q =
        let f = first_time (env_of s T env) (expr_at s i) T (rw here q) in
        let X = (kept (typing (env_of s T env) (expr_at s i)) T).table in
        let r : (kept (typing (env_of s T env) (expr_at s i)) T).res ≡ ok t = sym (ap (λ o. o.res) f) ∙ ap (λ o. o.res) e in
        let m : get_or U i 0 ≡ code t =
        ap (λ o. get_or o.table i 0) (sym e ∙ f)
        ∙ rw (here, r) (get_or-set_same X i (code t) 0 (rw (kept-length (typing (env_of s T env) (expr_at s i)) T) (omega (arith, h.here.within, h.room)))) in
        rw m (code_tells t)

module _ (s S : List ℕ) (env : Env) (T : Table) (i : ℕ) (loaded : Loaded s S) (force : InForce S env) (h : StmtOf kinds.let' S T i) where
  let_is : (stmt_at s i ≡ bind (name_at s S i) (expr_at s (suc i))) × Row S grammar.Expr 1 (suc i) × (skip S 1 (suc i) ≡ end_at S i)
  let_is = let_at loaded h.stmt.here h.kind

  pub let_asks : Asks S T (i + 1)
  let_asks = record { room = h.stmt.room; here = rw (add-one i) (row_first let_is.1) }

  module _ (a : Result Ty Refusal) (U : Table) (y : Types s (ty_of (env_of s T env) (expr_at s (i + 1))) T a U) where
    module _ (c : Ty) (e : a ≡ Ok c) (b : Bool) (f : b ≡ not (sameb the_type c Collection)) (r : Result Unit Refusal) (g : r ≡ expected b (CollectionLocal (i + 1))) where
      typed : kept (ty_of (env_of s T env) (expr_at s (suc i))) T ≡ record { res = ok c; table = U }
      typed = rw (← add-one i) (gave s _ T a U y c e)

      judged : kept (check_local (expr_at s (suc i)) c) U ≡ record { res = done_of s r; table = U }
      unfolding check_local refusal_of
      judged =
          let x : b ≡ not (eq_ty c Collection) = f ∙ ap not (told_ty c Collection _ refl) in
          (expects s (not (eq_ty c Collection)) (CollectionLocal (suc i)) r (rw (← x, ← add-one i) g)).answers U

      pub let_judged : env.next ≡ i → StmtDoes s S (env_of s T env) i T r U
      unfolding stmt_rule
      let_judged n =
          record {
            does = record { gives = rw let_is.0 (then_ok _ (check_local (expr_at s (suc i))) T U c _ typed judged) };
            binds = λ z w.
                record {
                  type = c;
                  typed = typed;
                  fits = did s _ U r U judged z;
                  marked = marked_by s S env T (suc i) c U loaded force (rw (add-one i) at let_asks) (omega (arith, n)) typed;
                };
          }

-- what the rule of a statement does, by its kind
module _ {s S : List ℕ} {i : ℕ} (loaded : Loaded s S) (h : Here S grammar.Stmt i) (Γ : typing.Env) (T : Table) where
  pub guard_is : kind_at S i ≡ kinds.guard → kept (stmt_rule Γ (stmt_at s i)) T ≡ kept (expect_predicate Γ (expr_at s (suc i))) T
  unfolding stmt_rule
  guard_is q = rw (guard_at loaded h q).0 refl

  pub let_steps : kind_at S i ≡ kinds.let' → kept (stmt_rule Γ (stmt_at s i)) T ≡ and_then (kept (ty_of Γ (expr_at s (suc i))) T) (λ t U. kept (check_local (expr_at s (suc i)) t) U)
  unfolding stmt_rule
  let_steps q = rw (let_at loaded h q).0 (kept_bind _ _ T)

  pub emit_is : kind_at S i ≡ kinds.emit → kept (stmt_rule Γ (stmt_at s i)) T ≡ kept (emit_rule Γ (name_at s S i) (list (exprs_at s (emit_arg_count S i) (suc i)))) T
  unfolding stmt_rule
  emit_is q = rw (emit_at loaded h q).0 refl

  pub assign_is : kind_at S i ≡ kinds.assign → kept (stmt_rule Γ (stmt_at s i)) T ≡ kept (check_stmt_types Γ (stmt_at s i)) T
  unfolding stmt_rule
  assign_is q = rw (assign_at loaded h q).0 refl

  pub do_steps : kind_at S i ≡ kinds.do' → kept (stmt_rule Γ (stmt_at s i)) T ≡ and_then (kept (check_stmt_types Γ (stmt_at s i)) T) (λ _ U. kept (refuse_name_recipient Γ (expr_at s (suc i))) U)
  unfolding stmt_rule
  do_steps q = rw (do_at loaded h q).0 (kept_bind _ _ T)

-- a rule that ends leaves in force what was
pub same_on : (s S : List ℕ) (env : Env) (T : Table) (t : Stmt) (U : Table) → RoomTyped s S env T → kept (check_stmt_types (env_of s T env) t) T ≡ record { res = ok tt; table = U } → env_of s U env ≡ env_of s T env
same_on s S env T t U h e = (on_typed s S env T U _ tt h e).on.same

-- a statement but an `emit` has an expression first
pub stmt_expr : {s S : List ℕ} {i : ℕ} → Loaded s S → Here S grammar.Stmt i → kind_at S i ≢ kinds.emit → (kinds.guard ≤ kind_at S i) × Here S grammar.Expr (suc i)
stmt_expr {s} {S} {i} d h n = (
  h.kind.0,
  pick {P = λ k. kind_at S i ≡ k → Here S grammar.Expr (suc i)} {i = kinds.guard} {n = 5} (kind_at S i)
      ((λ e. row_first (guard_at d h e).1)
      also (λ e. row_first (let_at d h e).1)
      also (λ e. absurd (n e))
      also (λ e. row_first (assign_at d h e).1)
      also (λ e. row_first (do_at d h e).1)
      also end')
      h.kind.0 h.kind.1 refl,
)

module _ (s S : List ℕ) (env : Env) (T : Table) (i : ℕ) (loaded : Loaded s S) (force : InForce S env) (h : BodyStmt s S env T i) where
  pub stmt_of_lem : (k m : ℕ) → k ≡ kind_at S i → k ≡ m → StmtOf m S T i × BodyStmt s S env T i
  stmt_of_lem k m e q = (record { stmt = record { room = h.typed.room; here = h.here }; kind = sym e ∙ q }, h)

  pub stmt_let : kind_at S i ≡ kinds.let' → StmtOf kinds.let' S T i
  stmt_let q = record { stmt = record { room = h.typed.room; here = h.here }; kind = q }

  pub stmt_do : kind_at S i ≢ kinds.guard → kind_at S i ≢ kinds.let' → kind_at S i ≢ kinds.emit → kind_at S i ≢ kinds.assign → kind_at S i ≡ kinds.do'
  stmt_do a b c d = omega (arith, h.here.kind.0, h.here.kind.1)

  pub emit_in : kind_at S i ≡ kinds.emit → KindIn kinds.emit S T i
  emit_in q = record { room = h.typed.room; within = h.here.within; kind = q }

  pub assign_in : kind_at S i ≡ kinds.assign → StmtIn S T i
  assign_in q = record { room = h.typed.room; here = h.here }

-- ------------------------------------------------------------ statements one behind another

of_kind-append : (k : ℕ) (as' bs : List Node) → of_kind k (as' ++ bs) ≡ of_kind k as' ++ of_kind k bs
unfolding of_kind
of_kind-append k [] bs = refl
of_kind-append k (t ∷ ts) bs = by_cases (eqb (node_kind t) k) (of_kind-append k ts bs)
  where
    by_cases : (b : Bool) → of_kind k (ts ++ bs) ≡ of_kind k ts ++ of_kind k bs
        → ◌≡◌ {A = List Node} (elim b [ true ↦ t ∷ of_kind k (ts ++ bs) | false ↦ of_kind k (ts ++ bs) ]) (elim b as (λ _. List Node) [ true ↦ t ∷ of_kind k ts | false ↦ of_kind k ts ] ++ of_kind k bs)
    by_cases true h = ap (λ us. t ∷ us) h
    by_cases false h = h

-- ------------------------------------------------------------ `check_body` from a statement on

abbrev Other : Stmt → Type 0
Other (guard e) = Unit
Other (bind x e) = ⊥
Other (emit x es) = Unit
Other (assign s op a b) = Unit
Other (do' e) = Unit

step_other : (Γ : typing.Env) (st : Stmt) (ss : List Stmt) (T : Table) → Other st → kept (check_body Γ (st ∷ ss)) T ≡ kept (stmt_rule Γ st >>= λ _. check_body Γ ss) T
unfolding check_body stmt_rule emit_rule ◌>>◌
step_other Γ (guard e) ss T o = refl
step_other Γ (bind x e) ss T o = absurd o
step_other Γ (emit x es) ss T o = sym (kept_assoc _ _ _ T)
step_other Γ (assign s op a b) ss T o = refl
step_other Γ (do' e) ss T o = sym (kept_assoc _ _ _ T)

is_other : {s S : List ℕ} {i : ℕ} → Loaded s S → Here S grammar.Stmt i → kind_at S i ≢ kinds.let' → Other (stmt_at s i)
is_other {s} {S} {i} d h n =
    pick {P = λ k. kind_at S i ≡ k → Other (stmt_at s i)} {i = kinds.guard} {n = 5} (kind_at S i)
    ((λ e. rw (guard_at d h e).0 tt)
    also (λ e. absurd (n e))
    also (λ e. rw (emit_at d h e).0 tt)
    also (λ e. rw (assign_at d h e).0 tt)
    also (λ e. rw (do_at d h e).0 tt)
    also end')
    h.kind.0 h.kind.1 refl

-- one statement more is behind: what its `let` adds
module _ (s S : List ℕ) (env : Env) (T : Table) (left : ℕ) (loaded : Loaded s S) (force : InForce S env) (h : BodyAt s S env T left) (n : left ≢ 0) where
  abbrev at : ℕ
  at = env.next

  abbrev grown : Env
  grown = bind_next S env

  rest : Row S grammar.Stmt (suc (left - 1)) at
  rest = row_some (omega arith) h.row

  here : Here S grammar.Stmt at
  here = row_first rest

  st : Stands s S at
  st = stands loaded at here.within

  force_grown : InForce S grown
  force_grown = bound_in_force S env force here

  lets_next : lets s (suc env.bound) env.body ≡ lets s env.bound env.body ++ of_kind kinds.let' (node_at s at ∷ [])
  unfolding lets bind_next
  lets_next =
      ap (of_kind kinds.let') (nodes_last env.bound loaded force_grown.locals)
      ∙ of_kind-append kinds.let' (nodes_at s env.bound env.body) (node_at s (skip S env.bound env.body) ∷ [])
      ∙ rw force.next refl

  kind_here : node_kind (node_at s at) ≡ kind_at S at
  unfolding node_kind
  kind_here = rw st.here (sym st.says.kind)

  -- it is no `let`
  no_let_here : kind_at S at ≢ kinds.let' → of_kind kinds.let' (node_at s at ∷ []) ≡ []
  unfolding of_kind
  no_let_here q = rw (of_kind, let z : eqb (node_kind (node_at s at)) kinds.let' ≡ false = rw kind_here (ne_eqb (kind_at S at) kinds.let' q) in z) refl

  let_here : kind_at S at ≡ kinds.let' → of_kind kinds.let' (node_at s at ∷ []) ≡ node_at s at ∷ []
  unfolding of_kind
  let_here q = rw (of_kind, let z : eqb (node_kind (node_at s at)) kinds.let' ≡ true = rw kind_here (eq-eqb (kind_at S at) kinds.let' q) in z) refl

  -- what is in force on U with the statement behind
  pub record Grown (U : Table) (Γ : typing.Env) : Type 0 where
    pub typed : RoomTyped s S grown U
    pub is : env_of s U grown ≡ Γ

  module _ (U : Table) (o : OnTyped s S env T U) where
    still : kind_at S at ≢ kinds.let' → Grown U (env_of s T env)
    unfolding bind_next env_of params_in ends_in
    still q =
        record {
          typed = record { room = o.on.room; typed = rw (lets_next, no_let_here q, append-nil) o.typed };
          is = rw (lets_next, no_let_here q, append-nil) o.on.same;
        }

    bound-now : (q : kind_at S at ≡ kinds.let') (b : Binds s (env_of s T env) T at U) → Grown U (bound (env_of s T env) (name_at s S at) b.type (line_after (expr_at s (suc at))))
    unfolding bind_next env_of params_in ends_in bound local_of named_end ty_from
    bound-now q b =
        record {
          typed =
              record {
                room = o.on.room;
                typed =
                    rw (lets_next, let_here q) (lets-append o.typed (rw st.here (a_let {t = node at st.line st.parts} (b.type, b.marked) no_let)));
              };
          is =
              let was = ap (λ (Γ : typing.Env). Γ.locals) o.on.same in
              let type-is : ty_from (get_or U (suc at) 0) ≡ b.type = rw (ty_from, b.marked) refl in
              rw (lets_next, let_here q, map-append (local_of U) (lets s env.bound env.body) (node_at s at ∷ []), map-append (named_end s) (lets s env.bound env.body) (node_at s at ∷ []), was, st.here, st.spells.name, type-is) refl;
        }

  -- ------------------------------------------------------------ check_body

  pub body_stmt : BodyStmt s S env T at
  body_stmt = record { typed = h.typed; here = here; next = refl }

  pub body_here : Here S grammar.Stmt at
  body_here = here

  -- `check_body` from this statement on, in which the rest is checked
  stmts_are : stmts_at s left at ≡ stmt_at s at ∷ stmts_at s (left - 1) (end_at S at)
  stmts_are = ap (λ k. stmts_at s k at) (let y : left ≡ suc (left - 1) = omega arith in y) ∙ stmts_next loaded (left - 1) here.within

  module _ (o : Result Unit Refusal) (U : Table) (does : StmtDoes s S (env_of s T env) at T o U) where
    let_is_here : kind_at S at ≡ kinds.let' → stmt_at s at ≡ bind (name_at s S at) (expr_at s (suc at))
    let_is_here w = (let_at loaded here w).0

    pub body_no : (x : Refusal) → o ≡ Err x → Does s (check_body (env_of s T env) (stmts_at s left at)) T (Err x) U
    unfolding check_body stmt_rule ◌>>◌ done_of
    body_no x z = rw stmts_are (by_cases (eqb (kind_at S at) kinds.let') refl)
      where
        by_cases : (b : Bool) → eqb (kind_at S at) kinds.let' ≡ b → Does s (check_body (env_of s T env) (stmt_at s at ∷ stmts_at s (left - 1) (end_at S at))) T (Err x) U
        by_cases true w =
            let i = let_is_here (eqb-true (kind_at S at) kinds.let' w) in
            record { gives = rw i (refused_behind (ty_of (env_of s T env) (expr_at s (suc at))) (check_local (expr_at s (suc at))) (λ ty. check_body (bound (env_of s T env) (name_at s S at) ty (line_after (expr_at s (suc at)))) (stmts_at s (left - 1) (end_at S at))) T U (refusal_of s x) (rw i at (stopped s (stmt_rule (env_of s T env) (stmt_at s at)) T o U does.does.gives x z))) }
        by_cases false w =
            record { gives = step_other (env_of s T env) (stmt_at s at) (stmts_at s (left - 1) (end_at S at)) T (is_other loaded here (eqb-false (kind_at S at) kinds.let' w)) ∙ (does_cut s (stmt_rule (env_of s T env) (stmt_at s at)) (check_body (env_of s T env) (stmts_at s (left - 1) (end_at S at))) T o U does.does x z).gives }

    module _ (f : o ≡ Ok tt) where
      onw : OnTyped s S env T U
      onw = on_typed s S env T U _ tt h.typed (did s _ T o U does.does.gives f)

      -- what is in force behind the statement, and that the rest is checked with it
      record Behind : Type 0 where
        with' : typing.Env
        grows : Grown U with'
        steps : (r : Result Unit Refusal) (W : Table) → Does s (check_body with' (stmts_at s (left - 1) (end_at S at))) U r W → Does s (check_body (env_of s T env) (stmts_at s left at)) T r W

      behind : Behind
      unfolding check_body ◌>>◌
      behind = by_cases (eqb (kind_at S at) kinds.let') refl
        where
          by_cases : (b : Bool) → eqb (kind_at S at) kinds.let' ≡ b → Behind
          by_cases true w =
              let k16 = eqb-true (kind_at S at) kinds.let' w in
              let y = does.binds f k16 in
              record {
                with' = bound (env_of s T env) (name_at s S at) y.type (line_after (expr_at s (suc at)));
                grows = bound-now U onw k16 y;
                steps = λ r W k.
                    record { gives = rw (stmts_are, let_is_here k16) (then_ok (ty_of (env_of s T env) (expr_at s (suc at))) (λ ty. check_local (expr_at s (suc at)) ty >>= λ _. check_body (bound (env_of s T env) (name_at s S at) ty (line_after (expr_at s (suc at)))) (stmts_at s (left - 1) (end_at S at))) T U y.type (record { res = done_of s r; table = W }) y.typed (then_ok (check_local (expr_at s (suc at)) y.type) (λ _. check_body (bound (env_of s T env) (name_at s S at) y.type (line_after (expr_at s (suc at)))) (stmts_at s (left - 1) (end_at S at))) U U tt (record { res = done_of s r; table = W }) y.fits k.gives)) };
              }
          by_cases false w =
              let no = eqb-false (kind_at S at) kinds.let' w in
              record {
                with' = env_of s T env;
                grows = still U onw no;
                steps = λ r W k.
                    record { gives = rw stmts_are (step_other (env_of s T env) (stmt_at s at) (stmts_at s (left - 1) (end_at S at)) T (is_other loaded here no) ∙ (does_then s (stmt_rule (env_of s T env) (stmt_at s at)) (check_body (env_of s T env) (stmts_at s (left - 1) (end_at S at))) T o U does.does f r W k).gives) };
              }

      pub body_rest : BodyAt s S grown U (left - 1)
      unfolding bind_next
      body_rest = record { typed = behind.grows.typed; row = row_rest rest }

      pub body_ok : (r : Result Unit Refusal) (W : Table) → Does s (check_body (env_of s U grown) (stmts_at s (left - 1) grown.next)) U r W
          → Does s (check_body (env_of s T env) (stmts_at s left at)) T r W
      unfolding bind_next
      body_ok r W k = behind.steps r W (rw (← behind.grows.is) k)

-- ------------------------------------------------------------ what is left of a body

-- What answers for the m statements behind those that are bound in env, on the table T, answers for the whole, which began on T₀.
pub record BodyLeft (s₀ : List ℕ) (whole : Rule Unit) (T₀ : Table) (s S : List ℕ) (env : Env) (T : Table) (m : ℕ) : Type 0 where
  pub body : BodyAt s S env T m
  pub whole_by : (r : Result Unit Refusal) (W : Table) → Does s (check_body (env_of s T env) (stmts_at s m env.next)) T r W → Does s₀ whole T₀ r W

pub left_start : (s S : List ℕ) (env : Env) (T : Table) (m : ℕ) → BodyAt s S env T m → BodyLeft s (check_body (env_of s T env) (stmts_at s m env.next)) T s S env T (m - 0)
left_start s S env T m h = let z : m - 0 ≡ m = omega arith in record { body = rw z h; whole_by = λ r W k. rw z at k }

module _ {s₀ : List ℕ} {whole : Rule Unit} {T₀ : Table} {s S : List ℕ} {env : Env} {T : Table} {m i : ℕ} (w : BodyLeft s₀ whole T₀ s S env T (m - i)) where
  pub left_over : m ≤ i → Does s₀ whole T₀ (Ok tt) T
  unfolding check_body
  left_over l =
      let e : m - i ≡ 0 = omega arith in
      w.whole_by (Ok tt) T (rw (e, no_stmts s env.next) (does_nothing s T))

  module _ (loaded : Loaded s S) (force : InForce S env) (l : i < m) where
    some : m - i ≢ 0
    some = omega arith

    pub left_stmt : BodyStmt s S env T env.next
    left_stmt = body_stmt s S env T (m - i) loaded force w.body some

    pub left_here : Here S grammar.Stmt env.next
    left_here = body_here s S env T (m - i) loaded force w.body some

    module _ (o : Result Unit Refusal) (U : Table) (does : StmtDoes s S (env_of s T env) env.next T o U) where
      pub left_refused : (x : Refusal) → o ≡ Err x → Does s₀ whole T₀ (Err x) U
      left_refused x e = w.whole_by (Err x) U (body_no s S env T (m - i) loaded force w.body some o U does x e)

      pub left_next : o ≡ Ok tt → BodyLeft s₀ whole T₀ s S (bind_next S env) U (m - (i + 1))
      left_next e =
          let z : m - (i + 1) ≡ m - i - 1 = omega arith in
          record {
            body = rw z (body_rest s S env T (m - i) loaded force w.body some o U does e);
            whole_by = λ r W k. w.whole_by r W (body_ok s S env T (m - i) loaded force w.body some o U does e r W (rw z at k));
          }

pub stmt_length : (s S : List ℕ) (Γ : typing.Env) (i : ℕ) (T : Table) (r : Result Unit Refusal) (U : Table) → StmtDoes s S Γ i T r U → length U ≡ length T
stmt_length s S Γ i T r U a = does_length s _ T r U a.does

-- what `check_stmt`, `check_let` and `check_do` do and ask of their calls, and that these keep the length of the table
pub ruleset stmt_needs = (tested, loaded_sheet, stmt_let, stmt_do, emit_in, assign_in, stmt_length, does_length, guard_is, let_steps, emit_is, assign_is, do_steps, same_on, stmt_expr)
