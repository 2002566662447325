-- The tests of an assignment: what each return needs. Assumes nothing.
use mathlib.Core.Logic.{◌≢◌}
use mathlib.Core.Path.{◌≡◌, refl, sym, ◌∙◌}
use mathlib.Core.List.{List, []}
use mathlib.Core.Bool.{Bool, true, false, true≢false, cond, not, ◌&&◌, ◌||◌}
use Prim.Native.Nat.{ℕ, suc, ◌+◌}
use native.Mathlib.Numerals.{add-one}
use native.Mathlib.Omega.{arith}
use lib.Dec.{eqb}
use borrow.Author.Tests.{eq-eqb, ne_eqb, not-true, not-false}
use Rattle.std.specs.Prelude.{Result, Option, Some, None, Ok, Err}
use Rattle.text.specs.Text.{bytes, same}
use Rattle.sheet.specs.Scratch.{kind_at, name_at}
use Rattle.grammar.specs.Grammar as grammar
use Rattle.rules.specs.Text.{Name, is}
use Rattle.rules.specs.Ast.{AssignOp, Set, AddTo, SubFrom, Expr, type_name}
use Rattle.rules.specs.declared.ty.Ty.{Ty}
use Rattle.rules.specs.declared.ty.Ty.TheVariants.{Address, Name as TName, Collection, Unknown}
use Rattle.rules.specs.Types.{eq_ty, numeric, compatible}
use Rattle.rules.specs.Typing as typing
use Rattle.rules.specs.Typing.{ident_of, ident_is}
use Rattle.rules.specs.Statements.{is_set, is_address_field, narrow_field, from_deploy_params, slot_fits}
use Rattle.rules.specs.Standing.{expr_at, field_at, model_in, Loaded, Here}
use Rattle.rules.proofs.Exprs.{is_dot_at, dot_at_lem, ident_at}
use Rattle.rules.proofs.Standing.{row_first, loaded_sheet}
use denote.Enum.Bare.{sameb}
use Rattle.rules.specs.contracts.ty.Ty.{the_type}
use Rattle.rules.proofs.Same.{told_ty}
use Rattle.rules.specs.Operators.{assign_meant}
use Rattle.lookups.specs.Found.{found_field, FieldNamed}
use Rattle.lookups.proofs.Behind.{behind}
use Rattle.lookups.proofs.Types.{type_name_lem}
use Rattle.env.specs.Force.{env_of}
use Rattle.env.specs.declared.env.Env.{Env}
use Rattle.refusals.specs.Answers.{expected}
use Rattle.refusals.specs.declared.refusal.Refusal.{Refusal}
use Rattle.refusals.specs.declared.refusal.Refusal.TheVariants.{WrappingIntoNarrow, LiteralIntoNarrow}
use Rattle.narrow.specs.Narrow.{exceeds_of}
use Rattle.statements.specs.declared.assign.Assignment.{Assignment}
use Rattle.statements.specs.Assigned.{bare_at, becomes_address, narrow_at, is_above, judge_narrow, FitsSlot}
use Rattle.grammar.specs.Kinds as kinds

-- ------------------------------------------------------------ bare names

pub bare-name : (S : List ℕ) (i : ℕ) (a b : Bool) → a ≡ eqb (kind_at S i) kinds.id → b ≡ eqb (kind_at S i) kinds.field → (a || b) ≡ bare_at S i
unfolding bare_at
bare-name S i a b e f = rw (e, f) refl

-- ------------------------------------------------------------ addresses

module _ (s S : List ℕ) (x : Name) (d : Loaded s S) (r : Option ℕ) (n : FieldNamed s S x r) where
  pub no_address : r ≡ None → false ≡ is_address_field (model_in s) x
  unfolding is_address_field found_field
  no_address e = rw (is_address_field, ← n.found, e) refl

  pub address : (i : ℕ) (y : Name) (b : Bool) → r ≡ Some i → y ≡ name_at s S (i + 1) → b ≡ same y (bytes "Q_Address") → b ≡ is_address_field (model_in s) x
  unfolding is_address_field found_field is
  address i y b e z w =
      let t = behind kinds.field s S d r i e n.kind (omega arith) (omega arith) in
      let q : type_name (field_at s i).ty ≡ y = rw (t.field, z, add-one i) (sym (type_name_lem s S (suc i) d)) in
      rw (is_address_field, ← n.found, e, q) w

module _ (s S : List ℕ) (a : Assignment) (b : Bool) (n : b ≡ bare_at S a.target) where
  pub address_no_name : not b ≡ true → false ≡ becomes_address s S a
  unfolding becomes_address
  address_no_name e = rw (← n, not-true b e) refl

  module _ (o x y : Bool) (m : not b ≡ false) (q : o ≡ is_set (assign_meant a.op)) (g : x ≡ sameb the_type a.given TName) (h : y ≡ sameb the_type a.slot Address) where
    pub address_other : (o && x && y) ≡ false → false ≡ becomes_address s S a
    unfolding becomes_address
    address_other e = rw (← n, not-false b m, ← q, ← told_ty a.given TName x g, ← told_ty a.slot Address y h, e) refl

    pub address_named : (z : Name) (r : Bool) → (o && x && y) ≡ true → z ≡ name_at s S a.target → r ≡ is_address_field (model_in s) z
        → r ≡ becomes_address s S a
    unfolding becomes_address
    address_named z r e f w = rw (← n, not-false b m, ← q, ← told_ty a.given TName x g, ← told_ty a.slot Address y h, e, ← f) w

-- ------------------------------------------------------------ narrow fields

module _ (s S : List ℕ) (i : ℕ) (b : Bool) (n : b ≡ bare_at S i) where
  pub narrow_no_name : not b ≡ true → None ≡ narrow_at s S i
  unfolding narrow_at
  narrow_no_name e = rw (← n, not-true b e) refl

  pub narrow_named : (x : Name) (r : Option ℕ) → not b ≡ false → x ≡ name_at s S i → r ≡ narrow_field (model_in s) x → r ≡ narrow_at s S i
  unfolding narrow_at
  narrow_named x r e z w = rw (← n, not-false b e, ← z) w

module _ (s S : List ℕ) (i m : ℕ) (t : Bool) (q : t ≡ eqb (kind_at S i) kinds.int) where
  pub no_literal : t ≡ false → false ≡ is_above s S i m
  unfolding is_above
  no_literal e = rw (← q, e) refl

  pub above_literal : (x : Name) (r : Bool) → t ≡ true → x ≡ name_at s S i → r ≡ exceeds_of x m → r ≡ is_above s S i m
  unfolding is_above
  above_literal x r e z w = rw (← q, e, ← z) w

-- What `judge_narrow` meets: r is the target's largest number, and t whether the value is a `wrapping`.
module _ (s S : List ℕ) (target value : ℕ) (r : Option ℕ) (q : r ≡ narrow_at s S target) where
  pub narrow_wide : r ≡ None → Ok tt ≡ judge_narrow s S target value
  unfolding judge_narrow
  narrow_wide e = rw (judge_narrow, ← q, e) refl

  module _ (max : ℕ) (e : r ≡ Some max) (t : Bool) (z : t ≡ eqb (kind_at S value) kinds.wrapping) where
    is-max : narrow_at s S target ≡ Some max
    is-max = sym q ∙ e

    pub narrow_wraps : t ≡ true → Err (WrappingIntoNarrow target value) ≡ judge_narrow s S target value
    unfolding judge_narrow
    narrow_wraps f = rw (judge_narrow, is-max, ← z, f) refl

    pub narrow_literal : (b : Bool) (v : Result Unit Refusal) → t ≡ false → b ≡ is_above s S value max → v ≡ expected (not b) (LiteralIntoNarrow target value max) → v ≡ judge_narrow s S target value
    unfolding judge_narrow
    narrow_literal b v n w f = f ∙ rw (judge_narrow, is-max, ← z, n, ← w) refl

-- ------------------------------------------------------------ deploy_params

module _ (s S : List ℕ) (env : Env) (i : ℕ) (loaded : Loaded s S) (h : Here S grammar.Expr i) where
  pub not_genesis : not env.genesis ≡ true → false ≡ from_deploy_params (env_of s [] env) (expr_at s i)
  unfolding from_deploy_params env_of
  not_genesis e = rw (not-true env.genesis e) refl

  module _ (g : not env.genesis ≡ false) where
    pub not_dot : kind_at S i ≢ kinds.dot → false ≡ from_deploy_params (env_of s [] env) (expr_at s i)
    unfolding from_deploy_params env_of
    not_dot e = rw (not-false env.genesis g, is_dot_at loaded h, ne_eqb (kind_at S i) kinds.dot e) refl

    module _ (d : kind_at S i ≡ kinds.dot) (t : Bool) (z : t ≡ eqb (kind_at S (i + 1)) kinds.id) where
      base : ident_of (expr_at s (suc i)) ≡ cond t (Some (name_at s S (i + 1))) None
      base = ident_at loaded (row_first (dot_at_lem loaded h d).1) ∙ rw (z, add-one i) refl

      from_base : from_deploy_params (env_of s [] env) (expr_at s i) ≡ ident_is (expr_at s (suc i)) "deploy_params"
      unfolding from_deploy_params env_of
      from_base = rw (not-false env.genesis g, is_dot_at loaded h, eq-eqb (kind_at S i) kinds.dot d) refl

      pub not_named : t ≡ false → false ≡ from_deploy_params (env_of s [] env) (expr_at s i)
      unfolding ident_is
      not_named e = rw (from_base, ident_is, base, e) refl

      pub by_base : (x : Name) (r : Bool) → t ≡ true → x ≡ name_at s S (i + 1) → r ≡ same x (bytes "deploy_params") → r ≡ from_deploy_params (env_of s [] env) (expr_at s i)
      unfolding ident_is is
      by_base x r e y w = rw (from_base, ident_is, base, e, ← y) w

-- ------------------------------------------------------------ slots

module _ (Γ : typing.Env) (v : Expr) (t u : Ty) where
  set_fits : (o : AssignOp) → is_set o ≡ true → slot_fits Γ o v t u ≡ (compatible t u || (eq_ty t Collection && eq_ty u Unknown && from_deploy_params Γ v))
  unfolding is_set slot_fits
  set_fits Set e = refl
  set_fits AddTo e = absurd (true≢false (sym e))
  set_fits SubFrom e = absurd (true≢false (sym e))

  add_fits : (o : AssignOp) → is_set o ≡ false → slot_fits Γ o v t u ≡ (numeric t && numeric u)
  unfolding is_set slot_fits
  add_fits Set e = absurd (true≢false e)
  add_fits AddTo e = refl
  add_fits SubFrom e = refl

module _ (s : List ℕ) (env : Env) (a : Assignment) (o : Bool) (q : o ≡ is_set (assign_meant a.op)) where
  pub fits_numbers : (x y : Bool) → not o ≡ true → x ≡ numeric a.slot → y ≡ numeric a.given → FitsSlot s env a (x && y)
  fits_numbers x y e f g = record { fits = λ T. rw (add_fits (env_of s T env) (expr_at s a.value) a.slot a.given (assign_meant a.op) (sym q ∙ not-true o e), f, g) refl }

  module _ (b : Bool) (n : not o ≡ false) (h : b ≡ compatible a.slot a.given) where
    -- what fits where the operator is `=`
    fits_set : (r : Bool) → r ≡ (b || (eq_ty a.slot Collection && eq_ty a.given Unknown && from_deploy_params (env_of s [] env) (expr_at s a.value))) → FitsSlot s env a r
    unfolding from_deploy_params env_of
    fits_set r e = record { fits = λ T. e ∙ sym (set_fits (env_of s T env) (expr_at s a.value) a.slot a.given (assign_meant a.op) (sym q ∙ not-false o n) ∙ rw h refl) }

    pub fits_compatible : b ≡ true → FitsSlot s env a true
    fits_compatible e = fits_set true (rw e refl)

    module _ (x y : Bool) (f : x ≡ sameb the_type a.slot Collection) (g : y ≡ sameb the_type a.given Unknown) where
      pub fits_params : (r : Bool) → b ≡ false → (x && y) ≡ true → r ≡ from_deploy_params (env_of s [] env) (expr_at s a.value) → FitsSlot s env a r
      fits_params r e w z = fits_set r (rw (e, ← told_ty a.slot Collection x f, ← told_ty a.given Unknown y g, w) z)

      pub fits_not : b ≡ false → (x && y) ≡ false → FitsSlot s env a false
      fits_not e w = fits_set false (rw (e, ← told_ty a.slot Collection x f, ← told_ty a.given Unknown y g, w) refl)

pub ruleset laws_tests = (loaded_sheet, address_no_name, address_named, address_other, not_genesis, not_dot, not_named, by_base, no_literal, above_literal, address, no_address, narrow_wide, narrow_wraps, narrow_literal, narrow_no_name, narrow_named, fits_numbers, fits_compatible, fits_params, fits_not)
