-- `expect_predicate`, `check_stmt_types` and `check_default`: what each return and each call needs. Assumes nothing.
use mathlib.Core.Logic.{◌≢◌}
use mathlib.Core.Path.{◌≡◌, refl, sym, ap, ◌∙◌}
use mathlib.Core.List.{List, [], ◌∷◌}
use mathlib.Core.Bool.{Bool, true, false, not, ◌||◌, or-false}
use Prim.Native.Nat.{ℕ, suc, ◌+◌}
use native.Mathlib.Numerals.{add-one}
use native.Mathlib.Omega.{arith}
use lib.ListN.{get_or}
use Rattle.std.specs.Prelude.{Option, is_some, Result, Ok, Err, None}
use Rattle.text.specs.Text.{bytes, ended}
use Rattle.text.specs.Word.{place_in, split}
use Rattle.grammar.specs.Grammar as grammar
use Rattle.sheet.specs.Scratch.{kind_at, op_at, end_at, name_at}
use Rattle.rules.specs.Text.{Name, is_one}
use Rattle.rules.specs.Ast.{Set, assign_ops, id, leaf, Field, span, leaf_of, assign, do', type_name}
use Rattle.rules.specs.Asking.{◌>>=◌, ◌>>◌, if_some}
use Rattle.rules.specs.declared.ty.Ty.TheVariants.{Bool as Boolean, Unknown}
use Rattle.rules.specs.Kept.{Table, Kept, kept}
use Rattle.rules.specs.Types.{is_ty}
use Rattle.rules.specs.Typing as typing
use Rattle.rules.specs.Typing.{ident_leaf, ident_of, call_of, typings, check_keyed_call, asked, ask_of, ty_of, ty_of_ident}
use Rattle.rules.specs.Statements.{check_assign, check_keyed_use, check_stmt_types, expect_predicate}
use Rattle.rules.specs.Check.{made_up, check_default, default_text}
use Rattle.rules.specs.Standing.{place_at, expr_at, field_at, stmt_at, type_at, Here, Row, Loaded}
use Rattle.rules.proofs.Binding.{then_ok}
use Rattle.rules.proofs.Exprs.{is-call_at}
use Rattle.rules.proofs.Parts.{stop, ◌also◌, pick}
use Rattle.rules.proofs.Records.{named, guard_at, let_at, emit_at, assign_at, do_at, field_at_lem}
use Rattle.rules.proofs.Standing.{row_first, row_rest}
use Rattle.refusals.specs.Refusal.{refusal_of, done_of}
use Rattle.refusals.specs.declared.refusal.Refusal.{Refusal}
use Rattle.refusals.specs.declared.refusal.Refusal.TheVariants.{Predicate, Default}
use Rattle.refusals.specs.Answers.{expected}
use Rattle.refusals.proofs.Answers.{expects, fits, refuses}
use Rattle.lookups.proofs.Types.{type_name_lem}
use Rattle.env.specs.Calls.{KeyedOf}
use Rattle.env.specs.Force.{env_of, InForce}
use Rattle.env.specs.declared.env.Env.{Env}
use Rattle.lookups.proofs.Tables.{one_found}
use denote.Enum.Bare.{sameb}
use Rattle.rules.specs.contracts.ty.Ty.{the_type}
use Rattle.rules.specs.declared.ty.Ty.{Ty}
use Rattle.rules.proofs.Same.{told_ty}
use Rattle.rules.specs.Operators.{assign_meant}
use Rattle.rules.proofs.Operators.{assign_told}
use Rattle.grammar.specs.Coded.{assign_of}
use Rattle.grammar.specs.declared.ops.AssignOp as code
use Rattle.grammar.specs.declared.ops.AssignOp.TheVariants as assign_op
use Rattle.typing.specs.Asks.{callee_at, args_at, Asks, AsksAt, Types, Does}
use Rattle.typing.proofs.Calls.{parts, call_callee}
use Rattle.typing.proofs.Doing.{typed_then, not_typed}
use Rattle.typing.proofs.Onward.{Onward, onward, no_value_below, off_type}
use Rattle.typing.proofs.Operators.{gave}
use Rattle.statements.specs.Assigned.{bare_at, TargetAt, JudgesAssign}
use Rattle.statements.specs.Checked.{no_defaults, StmtIn, StmtOf, DefaultIn, ValueIn, given_to, DoesAssign}
use Rattle.statements.proofs.Judged.{target_at}
use borrow.Author.Tests.{ne_eqb}
use Rattle.grammar.specs.Kinds as kinds

-- ------------------------------------------------------------ expect_predicate

module _ (s : List ℕ) (env : Env) (T : Table) (i : ℕ) (a : Result Ty Refusal) (U : Table) (k : Types s (ty_of (env_of s T env) (expr_at s i)) T a U) where
  pub no_condition : (r : Refusal) → a ≡ Err r → Does s (expect_predicate (env_of s T env) (expr_at s i)) T (Err r) U
  unfolding expect_predicate
  no_condition r e = not_typed s _ _ T a U k r e

  module _ (c : Ty) (e : a ≡ Ok c) (x y : Bool) (g : x ≡ sameb the_type c Boolean) (h : y ≡ sameb the_type c Unknown) where
    boolean : is_ty c (Boolean ∷ Unknown ∷ []) ≡ (x || y)
    unfolding is_ty
    boolean = rw (← told_ty c Boolean x g, ← told_ty c Unknown y h, or-false) refl

    pub condition : (r : Result Unit Refusal) → r ≡ expected (x || y) (Predicate i) → Does s (expect_predicate (env_of s T env) (expr_at s i)) T r U
    unfolding expect_predicate refusal_of
    condition r q = typed_then s _ _ T a U k c r e (expects s _ (Predicate i) r (q ∙ ap (λ b. expected b (Predicate i)) (sym boolean)))

-- ------------------------------------------------------------ check_value

module _ (s S : List ℕ) (env : Env) (T : Table) (op : code.AssignOp) (target value : ℕ) (c : Ty) (a : Result Ty Refusal) (U : Table) (k : Types s (ty_of (env_of s T env) (expr_at s value)) T a U) where
  pub value_no : (r : Refusal) → a ≡ Err r → DoesAssign s S env op target value c T (Err r) U
  unfolding given_to
  value_no r e = record { does = λ x p. not_typed s _ _ T a U k r e }

  pub value_ok : (d : Ty) (r : Result Unit Refusal) → a ≡ Ok d → JudgesAssign s S env (record { op = op; target = target; value = value; slot = c; given = d }) r → DoesAssign s S env op target value c T r U
  unfolding given_to
  value_ok d r e j = record { does = λ x p. typed_then s _ _ T a U k d r e (j.judged T x p) }

-- ------------------------------------------------------------ check_assign

module _ (s S : List ℕ) (env : Env) (T : Table) (i : ℕ) (loaded : Loaded s S) (force : InForce S env) (h : StmtOf kinds.assign S T i) where
  its_parts : (stmt_at s i ≡ assign (place_at s i) (get_or assign_ops (op_at S i) Set) (expr_at s (suc i)) (expr_at s (end_at S (suc i)))) × Row S grammar.Expr 2 (suc i)
  its_parts = let t = assign_at loaded h.stmt.here h.kind in (t.0, t.1)

  pub assign_target : Asks S T (i + 1)
  assign_target = record { room = h.stmt.room; here = rw (add-one i) (row_first its_parts.1) }

  module _ (a : Result Ty Refusal) (U : Table) (k : Types s (ty_of (env_of s T env) (expr_at s (i + 1))) T a U) where
    pub assign_no : (r : Refusal) → a ≡ Err r → Does s (check_stmt_types (env_of s T env) (stmt_at s i)) T (Err r) U
    unfolding check_stmt_types check_assign ask_of asked ty_of
    assign_no r e = rw (its_parts.0, ← add-one i) (not_typed s (ty_of (env_of s T env) (expr_at s (i + 1))) _ T a U k r e)

    module _ (c : Ty) (m : ℕ) (e : a ≡ Ok c) (q : m ≡ end_at S (i + 1)) where
      on : Onward s S env T U
      on = onward s S env T U _ _ loaded force h.stmt.room (off_type loaded (env_of s T env) assign_target.here (rw (add-one i) (no_value_below S i (omega (arith, h.kind))))) (gave s _ T a U k c e)

      pub assign_value : ValueIn S U (i + 1) m
      assign_value =
          record { room = on.room; within = assign_target.here.within; here = rw (q ∙ ap (end_at S) (add-one i)) (row_first (row_rest its_parts.1)) }

      pub assign_ok : (o : code.AssignOp) (r : Result Unit Refusal) (W : Table) → o ≡ assign_of (op_at S i) → DoesAssign s S env o (i + 1) m c U r W → Does s (check_stmt_types (env_of s T env) (stmt_at s i)) T r W
      unfolding check_stmt_types check_assign ask_of asked ty_of given_to
      assign_ok o r W y g =
          let j = g.does (expr_at s (i + 1)) (target_at loaded assign_target.here) in
          record {
            gives =
                rw (its_parts.0, ← assign_told (op_at S i), ← y, ← add-one i, ← q)
                (then_ok (ty_of (env_of s T env) (expr_at s (i + 1))) _ T U c _ (gave s _ T a U k c e) (rw (← on.same) j.gives));
          }

-- ------------------------------------------------------------ check_keyed_use

module _ (s S : List ℕ) (env : Env) (T : Table) (i : ℕ) (loaded : Loaded s S) (force : InForce S env) (h : Asks S T i) where
  no_call : kind_at S i ≢ kinds.call → call_of (expr_at s i) ≡ None
  no_call q = is-call_at loaded h.here ∙ rw (ne_eqb (kind_at S i) kinds.call q) refl

  pub use_none : kind_at S i ≢ kinds.call → Does s (check_keyed_use (env_of s T env) (expr_at s i)) T (Ok tt) T
  unfolding check_keyed_use if_some done_of kept
  use_none q = record { gives = rw (no_call q) refl }

  module _ (q : kind_at S i ≡ kinds.call) where
    use_call : AsksAt kinds.call S T i
    use_call = record { asks = h; kind = q }

    pub use_callee : Here S grammar.Expr (i + 1)
    use_callee = call_callee s S env T i loaded force use_call

    module _ (keyed : Option ℕ) (f : KeyedOf s S env (i + 1) keyed) where
      pub use_ok : (r : Result Unit Refusal) (U : Table) → Does s (check_keyed_call (env_of s T env) (callee_at s i) (typings (env_of s T env) (args_at s S i))) T r U
          → Does s (check_keyed_use (env_of s T env) (expr_at s i)) T r U
      unfolding check_keyed_use call_of if_some callee_at args_at
      use_ok r U k = record { gives = rw (parts s S env T i loaded use_call).0 k.gives }

-- ------------------------------------------------------------ check_do

module _ (s S : List ℕ) (env : Env) (T : Table) (i : ℕ) (loaded : Loaded s S) (force : InForce S env) (h : StmtOf kinds.do' S T i) where
  its_part : (stmt_at s i ≡ do' (expr_at s (suc i))) × Row S grammar.Expr 1 (suc i)
  its_part = let t = do_at loaded h.stmt.here h.kind in (t.0, t.1)

  pub do_expr : Asks S T (i + 1)
  do_expr = record { room = h.stmt.room; here = rw (add-one i) (row_first its_part.1) }

  module _ (a : Result Ty Refusal) (U : Table) (k : Types s (ty_of (env_of s T env) (expr_at s (i + 1))) T a U) where
    pub do_no : (r : Refusal) → a ≡ Err r → Does s (check_stmt_types (env_of s T env) (stmt_at s i)) T (Err r) U
    unfolding check_stmt_types
    do_no r e = rw (its_part.0, ← add-one i) (not_typed s (ty_of (env_of s T env) (expr_at s (i + 1))) _ T a U k r e)

    module _ (c : Ty) (e : a ≡ Ok c) where
      on_do : Onward s S env T U
      on_do = onward s S env T U _ _ loaded force h.stmt.room (off_type loaded (env_of s T env) do_expr.here (rw (add-one i) (no_value_below S i (omega (arith, h.kind))))) (gave s _ T a U k c e)

      pub do_use : Asks S U (i + 1)
      do_use = record { room = on_do.room; here = do_expr.here }

      pub do_ok : (r : Result Unit Refusal) (W : Table) → Does s (check_keyed_use (env_of s U env) (expr_at s (i + 1))) U r W → Does s (check_stmt_types (env_of s T env) (stmt_at s i)) T r W
      unfolding check_stmt_types
      do_ok r W g =
          record {
            gives =
                rw (its_part.0, ← add-one i)
                (then_ok (ty_of (env_of s T env) (expr_at s (i + 1))) _ T U c _ (gave s _ T a U k c e) (rw (← on_do.same) g.gives));
          }

-- ------------------------------------------------------------ check_stmt_types

module _ (s S : List ℕ) (env : Env) (T : Table) (i : ℕ) (loaded : Loaded s S) (force : InForce S env) (h : StmtIn S T i) where
  -- other statements ask nothing here
  pub stmt_other : kind_at S i ≢ kinds.assign → kind_at S i ≢ kinds.do' → Does s (check_stmt_types (env_of s T env) (stmt_at s i)) T (Ok tt) T
  unfolding check_stmt_types done_of kept
  stmt_other a b =
      let q = pick {P = λ k. kind_at S i ≡ k → k ≢ kinds.assign → k ≢ kinds.do' → Does s (check_stmt_types (env_of s T env) (stmt_at s i)) T (Ok tt) T} {i = kinds.guard} {n = 5} (kind_at S i)
      ((λ f x y. record { gives = rw (guard_at loaded h.here f).0 refl })
      also (λ f x y. record { gives = rw (let_at loaded h.here f).0 refl })
      also (λ f x y. record { gives = rw (emit_at loaded h.here f).0 refl })
      also (λ f x y. absurd (x refl))
      also (λ f x y. absurd (y refl))
      also stop) in
      q (omega (arith, h.here.kind.0)) (omega (arith, h.here.kind.1)) refl a b

-- ------------------------------------------------------------ check_default

pub takes_none_lem : (x : Name) (o : Option ℕ) (r : Bool) → o ≡ place_in x (split (bytes "Map Registry GuardianSet Q_Asset ")) → r ≡ is_some o → r ≡ is_one x no_defaults
unfolding split ended
takes_none_lem x o r e f = f ∙ one_found x no_defaults o e

module _ (s S : List ℕ) (env : Env) (T : Table) (field : ℕ) (loaded : Loaded s S) (force : InForce S env) (h : DefaultIn S T field) where
  abbrev Γ : typing.Env
  Γ = env_of s T env

  abbrev f : Field
  f = field_at s field

  field_is : (f.name ≡ name_at s S field) × (f.nspan ≡ place_at s field) × (f.ty ≡ type_at s (suc field)) × Here S grammar.Ty (suc field) × Row S grammar.Expr 1 (end_at S (suc field))
  field_is =
      let q = field_at_lem loaded h.within h.kind in
      (ap (λ y. y.name) q.0, ap (λ y. y.nspan) q.0, ap (λ y. y.ty) q.0, q.1, rw h.some at q.2)

  -- its name and place tell the target that is made up
  default_target : TargetAt s S field (leaf 0 f.nspan (id f.name))
  unfolding span ident_of leaf_of ident_leaf bare_at
  default_target = record { place = field_is.1; ident = rw (h.kind, field_is.0, named loaded h.within) refl }

  module _ (v : ℕ) (z : v ≡ end_at S (field + 1)) where
    value_at : v ≡ end_at S (suc field)
    value_at = z ∙ ap (end_at S) (add-one field)

    pub default_value : ValueIn S T field v
    default_value = record { room = h.room; within = h.within; here = rw value_at (row_first field_is.4) }

    -- nothing is asked of the target
    from_value : (r : Kept Unit) → kept (given_to Γ (assign_meant assign_op.Set) (leaf 0 f.nspan (id f.name)) (expr_at s v) (ty_of_ident Γ f.name)) T ≡ r
        → kept (check_assign Γ Set (made_up Γ f) (ask_of Γ (expr_at s v))) T ≡ r
    unfolding check_assign made_up given_to ty_of ask_of asked ◌>>=◌
    from_value r k = k

    module _ (y : Name) (b : Bool) (n : y ≡ name_at s S (field + 1)) (o : b ≡ is_one y no_defaults) where
      test : is_one (type_name f.ty) no_defaults ≡ b
      test =
          let q : type_name f.ty ≡ y = rw (field_is.2, n, add-one field) (sym (type_name_lem s S (suc field) loaded)) in
          rw q (sym o)

      pub default_wrong : b ≡ true → Does s (check_default Γ f (expr_at s (end_at S (suc field)))) T (Err (Default field v)) T
      unfolding check_default done_of refusal_of
      default_wrong e =
          let q : not (is_one (type_name f.ty) no_defaults) ≡ false = rw (test, e) refl in
          record { gives = rw (← value_at) ((refuses _ 19 (span (expr_at s v)) (default_text f.ty) _ q).answers T) }

      pub default_ok : (x : Name) (c : Ty) (r : Result Unit Refusal) (U : Table) → b ≡ false → x ≡ name_at s S field → c ≡ ty_of_ident Γ x → DoesAssign s S env assign_op.Set field v c T r U
          → Does s (check_default Γ f (expr_at s (end_at S (suc field)))) T r U
      unfolding check_default ◌>>◌
      default_ok x c r U e m q g =
          let n : not (is_one (type_name f.ty) no_defaults) ≡ true = rw (test, e) refl in
          let y : c ≡ ty_of_ident Γ f.name = q ∙ rw (m, field_is.0) refl in
          let j = rw y at (g.does _ default_target) in
          record {
            gives =
                rw (← value_at) (then_ok _ _ T T tt _ ((fits _ 19 (span (expr_at s v)) (default_text f.ty) n).answers T) (from_value _ j.gives));
          }
