-- Values that reach slots, statement by statement. Assumes nothing.
use mathlib.Core.Path.{◌≡◌, refl, sym, ◌∙◌}
use mathlib.Core.Logic.{◌≢◌}
use mathlib.Core.List.{List}
use mathlib.Core.Bool.{Bool, true, false, cond, not, ◌&&◌}
use Prim.Native.Nat.{ℕ, zero, suc, ◌+◌, ◌-◌}
use native.Mathlib.Numerals.{add-one}
use native.Mathlib.Omega.{arith}
use lib.Dec.{eqb, ltb}
use borrow.Author.Tests.{eq-eqb, ne_eqb, eqb-true, lt-ltb, ltb-true, not-true, not-false}
use Rattle.std.specs.Prelude.{Result, Option, is_some, is_none, Ok, Some, None, slice_get}
use Rattle.text.specs.Text.{bytes, same}
use Rattle.grammar.specs.Grammar as grammar
use Rattle.sheet.specs.Scratch.{kind_at, end_at, name_at, call_arg_count}
use Rattle.sheet.specs.Say.{nspan_at}
use Rattle.sheet.specs.Tree.{take_nodes}
use Rattle.rules.specs.Text.{Name, Piece, is}
use Rattle.rules.specs.Ast.{Expr, exprs_of, list, span}
use Rattle.rules.specs.Asking.{Res, ok, refused, if_some, provided}
use Rattle.rules.specs.Model.{Model}
use Rattle.rules.specs.Statements.{narrow_field}
use Rattle.rules.specs.Typing.{Call, Dot, call_of, dot_of, ident_of}
use Rattle.rules.specs.Assets.{wraps, reaches, reaches_text, field_slot, values_slot, narrow_values, narrow_set, narrow_stmt}
use Rattle.rules.specs.Standing.{expr_at, exprs_at, stmt_at, named_at, model_in, Loaded, Here, Row}
use Rattle.rules.proofs.Standing.{exprs_next, row_first, row_rest}
use Rattle.rules.proofs.Exprs.{ident_at, is_dot_at, dot_at_lem, call_at_lem, is-call_at}
use Rattle.rules.proofs.Records.{named, assign_at}
use Rattle.refusals.specs.Answers.{Answers, expected}
use Rattle.refusals.specs.declared.refusal.Refusal.{Refusal}
use Rattle.refusals.specs.Refusal.{refusal_of, done_of}
use Rattle.refusals.specs.declared.refusal.Refusal.TheVariants.{ReachesField, ReachesValues}
use Rattle.refusals.proofs.Answers.{gives, fits, misfits}
use Rattle.wrapping.specs.Marks.{wrapped_names}
use Rattle.wrapping.specs.Reach.{sets_at}
use Rattle.grammar.specs.Kinds as kinds

-- ------------------------------------------------------------ a value and its slot

-- n is whether the slot has no largest number
module _ (w : Option ℕ) (n b : Bool) (e : n ≡ is_none w) where
  pub wide_slot : n ≡ true → false ≡ (is_some w && b)
  wide_slot h = rw (not-true (is_some w) (sym e ∙ h)) refl

  pub narrow_slot : (r : Bool) → n ≡ false → r ≡ b → r ≡ (is_some w && b)
  narrow_slot r h f = rw (not-false (is_some w) (sym e ∙ h)) f

-- w is the slot's largest number, and b what the code finds
module _ (xs : List Name) (o : Option ℕ) (value : Expr) (slot : List Piece) (w : Option ℕ) (b : Bool) (f : w ≡ o) (e : b ≡ (is_some w && wraps xs value)) where
  pub unreached : b ≡ false → Answers (reaches xs o value slot) (ok tt)
  unfolding reaches
  unreached q = fits _ 22 (span value) (reaches_text slot) (rw (← f, ← e, q) refl)

  pub reached : b ≡ true → Answers (reaches xs o value slot) (refused (record { number = 22; place = span value; text = reaches_text slot }))
  unfolding reaches
  reached q = misfits _ 22 (span value) (reaches_text slot) (rw (← f, ← e, q) refl)

  -- ... where `why` refuses so
  reach_judged : (s : List ℕ) (why : Refusal) → refusal_of s why ≡ record { number = 22; place = span value; text = reaches_text slot } → (r : Result Unit Refusal) → r ≡ expected (not b) why
      → Answers (reaches xs o value slot) (done_of s r)
  unfolding expected done_of
  reach_judged s why told r q = rw q (by_cases b refl)
    where
      by_cases : (t : Bool) → b ≡ t → Answers (reaches xs o value slot) (done_of s (expected (not t) why))
      by_cases true k = rw told (reached k)
      by_cases false k = unreached k

-- ------------------------------------------------------------ assignments

-- The target is the line behind the assignment.
module _ (s S : List ℕ) (M : List Bool) (k body i : ℕ) (d : Loaded s S) (a : Here S grammar.Stmt i) (e : kind_at S i ≡ kinds.assign) where
  abbrev xs : List Name
  xs = wrapped_names s S M k body

  parts : Row S grammar.Expr 2 (suc i)
  parts = (assign_at d a e).1

  abbrev Judged : Res Unit → Type 0
  Judged r = Answers (narrow_stmt (model_in s) xs (stmt_at s i)) r

  pub assign_other : kind_at S (i + 1) ≢ kinds.id → Judged (done_of s (Ok tt))
  unfolding narrow_stmt if_some done_of
  assign_other h = rw ((assign_at d a e).0, ident_at d (row_first parts), ← add-one i, ne_eqb (kind_at S (i + 1)) kinds.id h) (gives tt)

  pub assign_value : (v : ℕ) → v ≡ end_at S (i + 1) → Here S grammar.Expr v
  assign_value v z = rw (z, add-one i) (row_first (row_rest parts))

  module _ (x : Name) (w : Option ℕ) (v : ℕ) (b : Bool) (h : kind_at S (i + 1) ≡ kinds.id) (z : v ≡ end_at S (i + 1)) (y : x ≡ name_at s S (i + 1)) (f : w ≡ narrow_field (model_in s) x) (g : b ≡ (is_some w && wraps xs (expr_at s v))) where
    assign-judged : (r : Res Unit) → Answers (reaches xs (narrow_field (model_in s) x) (expr_at s v) (field_slot x)) r → Judged r
    unfolding narrow_stmt if_some
    assign-judged r j =
        rw ((assign_at d a e).0, ident_at d (row_first parts), ← add-one i, eq-eqb (kind_at S (i + 1)) kinds.id h, ← y, ← z) j

    pub assign_reach : (r : Result Unit Refusal) → r ≡ expected (not b) (ReachesField (i + 1) v) → Judged (done_of s r)
    unfolding refusal_of
    assign_reach r p =
        let t : named_at s (i + 1) ≡ x = rw (add-one i) (named d (row_first parts).within) ∙ sym y in
        assign-judged _ (reach_judged xs _ _ (field_slot x) w b f g s (ReachesField (i + 1) v) (rw t refl) r p)

-- ------------------------------------------------------------ calls of `set`

module _ (s S : List ℕ) (i : ℕ) where
  pub no_call : kind_at S i ≢ kinds.call → false ≡ sets_at s S i
  unfolding sets_at
  no_call h = rw (ne_eqb (kind_at S i) kinds.call h) refl

  module _ (h : kind_at S i ≡ kinds.call) where
    pub no_dot : kind_at S (i + 1) ≢ kinds.dot → false ≡ sets_at s S i
    unfolding sets_at
    no_dot g = rw (eq-eqb (kind_at S i) kinds.call h, ← add-one i, ne_eqb (kind_at S (i + 1)) kinds.dot g) refl

    pub by_set : (x : Name) (b u : Bool) (m : ℕ) → kind_at S (i + 1) ≡ kinds.dot → x ≡ name_at s S (i + 1) → b ≡ same x (bytes "set") → u ≡ eqb (kind_at S (i + 1 + 1)) kinds.id
        → m ≡ call_arg_count S i → (b && (u && ltb 1 m)) ≡ sets_at s S i
    unfolding sets_at is
    by_set x b u m g y p q z =
        let j : i + 1 + 1 ≡ suc (suc i) = omega arith in
        rw (eq-eqb (kind_at S i) kinds.call h, p, y, q, z, j, add-one i, ← add-one i) (rw (eq-eqb (kind_at S (i + 1)) kinds.dot g) refl)

second_of : {s S : List ℕ} (d : Loaded s S) (m j : ℕ) → Row S grammar.Expr m j → slice_get (list (exprs_at s m j)) 1 ≡ cond (ltb 1 m) (Some (expr_at s (end_at S j))) None
unfolding list exprs_at take_nodes exprs_of
second_of d zero j r = refl
second_of d (suc zero) j r = rw (exprs_next d 0 j (row_first r).within) refl
second_of d (suc (suc m)) j r =
    rw (exprs_next d (suc m) j (row_first r).within, exprs_next d m _ (row_first (row_rest r)).within, lt-ltb 1 (suc (suc m)) (omega arith)) refl

-- the rule of a call goes by five tests
module _ (m : Model) (xs : List Name) (e : Expr) (C : Call) (D : Dot) (x : Name) (v : Expr) where
  set-tests : (a b c f g : Bool) → call_of e ≡ cond a (Some C) None
      → (a ≡ true → dot_of C.callee ≡ cond b (Some D) None)
      → is D.name "set" ≡ c
      → (a ≡ true → b ≡ true → ident_of D.base ≡ cond f (Some x) None)
      → (a ≡ true → slice_get (list C.args) 1 ≡ cond g (Some v) None)
      → (r : Res Unit) → Answers (provided (a && (b && (c && (f && g)))) (reaches xs (narrow_values m x) v (values_slot x))) r → Answers (narrow_set m xs e) r
  unfolding narrow_set if_some provided
  set-tests false b c f g h i j k l r y = rw h y
  set-tests true false c f g h i j k l r y = rw (h, i refl) y
  set-tests true true false f g h i j k l r y = rw (h, i refl, j) y
  set-tests true true true false g h i j k l r y = rw (h, i refl, j, k refl refl) y
  set-tests true true true true false h i j k l r y = rw (h, i refl, j, k refl refl, l refl) y
  set-tests true true true true true h i j k l r y = rw (h, i refl, j, k refl refl, l refl) y

both : (a b : Bool) → (a && b) ≡ true → (a ≡ true) × (b ≡ true)
both true b e = (refl, e)
both false true e = (e, refl)
both false false e = (e, e)

module _ (s S : List ℕ) (M : List Bool) (k body i : ℕ) (ld : Loaded s S) (a : Here S grammar.Expr i) where
  abbrev ys : List Name
  ys = wrapped_names s S M k body

  abbrev Set' : Res Unit → Type 0
  Set' r = Answers (narrow_set (model_in s) ys (expr_at s i)) r

  callee : kind_at S i ≡ kinds.call → Here S grammar.Expr (suc i)
  callee e = row_first (call_at_lem ld a e).1

  set_rule : (x : Name) → x ≡ name_at s S (suc (suc i)) → (r : Res Unit)
      → Answers (provided (sets_at s S i) (reaches ys (narrow_values (model_in s) x) (expr_at s (end_at S (end_at S (suc i)))) (values_slot x))) r → Set' r
  unfolding sets_at
  set_rule x n =
      set-tests (model_in s) ys (expr_at s i) (record { callee = expr_at s (suc i); args = exprs_at s (call_arg_count S i) (end_at S (suc i)) })
      (record { base = expr_at s (suc (suc i)); name = name_at s S (suc i); nspan = nspan_at s S (suc i) }) x (expr_at s (end_at S (end_at S (suc i))))
      (eqb (kind_at S i) kinds.call) (eqb (kind_at S (suc i)) kinds.dot) (is (name_at s S (suc i)) "set") (eqb (kind_at S (suc (suc i))) kinds.id) (ltb 1 (call_arg_count S i))
      (is-call_at ld a)
      (λ p. is_dot_at ld (callee (eqb-true _ _ p)))
      refl
      (λ p q. rw n (ident_at ld (row_first (dot_at_lem ld (callee (eqb-true _ _ p)) (eqb-true _ _ q)).1)))
      (λ p. second_of ld (call_arg_count S i) (end_at S (suc i)) (row_rest (call_at_lem ld a (eqb-true _ _ p)).1))

  module _ (c : Bool) (e : c ≡ sets_at s S i) where
    pub set_other : not c ≡ true → Set' (done_of s (Ok tt))
    unfolding provided done_of
    set_other h = set_rule _ refl _ (rw (← e, not-true c h) (gives tt))

    -- the second argument stands at line v, the first at line u
    module _ (h : not c ≡ false) (u v : ℕ) (f : u ≡ end_at S (i + 1)) (g : v ≡ end_at S u) where
      second_at : v ≡ end_at S (end_at S (suc i))
      second_at = g ∙ rw (f, add-one i) refl

      map_at : i + 2 ≡ suc (suc i)
      map_at = omega arith

      tests : sets_at s S i ≡ true
      tests = sym e ∙ not-false c h

      is_call : kind_at S i ≡ kinds.call
      unfolding sets_at
      is_call = eqb-true _ _ (both (eqb (kind_at S i) kinds.call) _ tests).0

      -- the tests behind the first
      then : (eqb (kind_at S (suc i)) kinds.dot ≡ true) × ((is (name_at s S (suc i)) "set" && (eqb (kind_at S (suc (suc i))) kinds.id && ltb 1 (call_arg_count S i))) ≡ true)
      unfolding sets_at
      then = both _ _ (both (eqb (kind_at S i) kinds.call) _ tests).1

      pub set_value : Here S grammar.Expr v
      set_value =
          let m = ltb-true 1 (call_arg_count S i) (both (eqb (kind_at S (suc (suc i))) kinds.id) _ (both (is (name_at s S (suc i)) "set") _ then.1).1).1 in
          let r : Row S grammar.Expr (suc (suc (call_arg_count S i - 2))) (end_at S (suc i)) =
          rw (let z : suc (suc (call_arg_count S i - 2)) ≡ call_arg_count S i = omega arith in z) (row_rest (call_at_lem ld a is_call).1) in
          rw second_at (row_first (row_rest r))

      map_named : named_at s (i + 2) ≡ name_at s S (suc (suc i))
      map_named = rw map_at (named ld (row_first (dot_at_lem ld (callee is_call) (eqb-true _ _ then.0)).1).within)

      module _ (x : Name) (w : Option ℕ) (b : Bool) (y : x ≡ name_at s S (i + 2)) (o : w ≡ narrow_values (model_in s) x) (j : b ≡ (is_some w && wraps ys (expr_at s v))) where
        name-is : x ≡ name_at s S (suc (suc i))
        name-is = y ∙ rw map_at refl

        set-judged : (r : Res Unit) → Answers (reaches ys (narrow_values (model_in s) x) (expr_at s v) (values_slot x)) r → Set' r
        unfolding provided
        set-judged r z = set_rule x name-is r (rw (tests, ← second_at) z)

        pub set_reach : (r : Result Unit Refusal) → r ≡ expected (not b) (ReachesValues (i + 2) v) → Set' (done_of s r)
        unfolding refusal_of
        set_reach r p = set-judged _ (reach_judged ys _ _ (values_slot x) w b o j s (ReachesValues (i + 2) v) (rw (map_named ∙ sym name-is) refl) r p)
