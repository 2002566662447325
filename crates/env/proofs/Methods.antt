-- What a dot's name and a call's callee tell. Assumes nothing.
use mathlib.Core.Logic.{◌≢◌}
use mathlib.Core.Path.{◌≡◌, refl, sym, ◌∙◌}
use mathlib.Core.List.{List, [], ◌∷◌}
use mathlib.Core.Bool.{Bool, true, false, cond, not, ◌&&◌, ◌||◌, or-false}
use Prim.Native.String.{String}
use Prim.Native.Nat.{ℕ, suc, ◌+◌}
use native.Mathlib.Numerals.{add-one}
use native.Mathlib.Omega.{arith}
use lib.Dec.{eqb}
use borrow.Author.Tests.{eq-eqb, ne_eqb, not-true, not-false}
use Rattle.std.specs.Prelude.{Option, Some, None, is_some, Result, Ok}
use Rattle.text.specs.Text.{bytes, same, ended}
use Rattle.text.specs.Word.{place_in, split}
use Rattle.grammar.specs.Grammar as grammar
use Rattle.sheet.specs.Scratch.{kind_at, name_at}
use Rattle.sheet.specs.Say.{nspan_at}
use Rattle.rules.specs.Text.{Name, is, is_one, pick}
use Rattle.rules.specs.Ast.{Expr, Field, span, type_name}
use Rattle.rules.specs.Asking.{expect, if_some}
use Rattle.rules.specs.declared.ty.Ty.{Ty}
use Rattle.rules.specs.declared.ty.Ty.TheVariants.{Int, Bool as Boolean, Asset, Time, Unknown}
use Rattle.rules.specs.Types.{declared_arg, is_ty}
use Rattle.rules.specs.Typing as typing
use Rattle.rules.specs.Typing.{Dot, dot_of, ident_is, keyed_field, is_pool, keyed_op_fits, keyed_op_text, expect_keyed_op, receiver_text, expect_asset_receiver, ty_of_get, ty_of_call}
use Rattle.rules.specs.Standing.{expr_at, type_at, field_at, Loaded, Here}
use Rattle.rules.proofs.Exprs.{dot_at_lem, ident_at, is_dot_at}
use Rattle.rules.proofs.Standing.{row_first, loaded_sheet}
use Rattle.refusals.specs.Answers.{Answers}
use Rattle.lookups.specs.Found.{found_node, found_field, FoundKind}
use Rattle.refusals.specs.Refusal.{dot_at, refusal_of, done_of}
use Rattle.refusals.specs.declared.refusal.Refusal.TheVariants.{Receiver, KeyedOp}
use Rattle.refusals.specs.Answers.{expected}
use Rattle.refusals.proofs.Answers.{gives, expects, fits}
use Rattle.lookups.proofs.Tables.{one_found, either_word}
use Rattle.lookups.proofs.Types.{type_name_lem}
use Rattle.env.specs.Calls.{wants_of, keyed_of, keyed_record, KeyedOf, Callee, op_rule, get_ty, method_ty, call_ty}
use Rattle.env.specs.Force.{env_of, KeyedFound}
use Rattle.env.specs.declared.env.Env.{Env}
use Rattle.env.proofs.Lookups.{behind}
use Rattle.grammar.specs.Kinds as kinds
use denote.Enum.Bare.{sameb}
use Rattle.rules.specs.contracts.ty.Ty.{the_type}
use Rattle.rules.proofs.Same.{told_ty}
use Rattle.refusals.specs.declared.refusal.Refusal.{Refusal}

-- ------------------------------------------------------------ methods

pub moves : (x : Name) (b c : Bool) → b ≡ same x (bytes "credit") → c ≡ same x (bytes "debit") → (b || c) ≡ is_one x ("credit" ∷ "debit" ∷ [])
unfolding is
moves x b c v w = rw (v, w) (sym (either_word x "credit" "debit"))

abbrev one_key : List String
one_key = "insert" ∷ "remove" ∷ "contains" ∷ "get" ∷ "credit" ∷ "debit" ∷ []

module _ (x : Name) (b : Bool) (w : b ≡ same x (bytes "set")) where
  pub wants_two : b ≡ true → 2 ≡ wants_of x
  unfolding wants_of is
  wants_two q = rw (wants_of, ← w, q) refl

  module _ (o : Option ℕ) (t : Bool) (q : b ≡ false) (e : o ≡ place_in x (split (bytes "insert remove contains get credit debit "))) (h : t ≡ is_some o) where
    of_one : t ≡ is_one x one_key
    unfolding split ended
    of_one = h ∙ one_found x one_key o e

    pub wants_one : t ≡ true → 1 ≡ wants_of x
    unfolding wants_of is
    wants_one g = rw (wants_of, ← w, q, ← of_one, g) refl

    pub wants_none : t ≡ false → 0 ≡ wants_of x
    unfolding wants_of is
    wants_none g = rw (wants_of, ← w, q, ← of_one, g) refl

-- ------------------------------------------------------------ the callee

-- the dot at a line whose record is a `dot`
abbrev the_dot : List ℕ → List ℕ → ℕ → Dot
the_dot s S i = record { base = expr_at s (suc i); name = name_at s S i; nspan = nspan_at s S i }

dot_told : (s : List ℕ) (i : ℕ) (d : Dot) → dot_of (expr_at s i) ≡ Some d → dot_at s i ≡ d
unfolding dot_at
dot_told s i d e = rw (dot_at, e) refl

module _ {s S : List ℕ} {i : ℕ} (d : Loaded s S) (h : Here S grammar.Expr i) where
  not_dot : kind_at S i ≢ kinds.dot → dot_of (expr_at s i) ≡ None
  not_dot n = is_dot_at d h ∙ rw (ne_eqb (kind_at S i) kinds.dot n) refl

  is-dot : kind_at S i ≡ kinds.dot → dot_of (expr_at s i) ≡ Some (the_dot s S i)
  is-dot q = is_dot_at d h ∙ rw (eq-eqb (kind_at S i) kinds.dot q) refl

module _ (s S : List ℕ) (env : Env) (i : ℕ) (d : Loaded s S) (h : Here S grammar.Expr i) where
  none_here : kind_at S i ≢ kinds.dot → dot_of (expr_at s i) ≡ None
  none_here = not_dot d h

  dot_here : kind_at S i ≡ kinds.dot → dot_of (expr_at s i) ≡ Some (the_dot s S i)
  dot_here = is-dot d h

  pub base_in : kind_at S i ≡ kinds.dot → Here S grammar.Expr (i + 1)
  base_in q = rw (add-one i) (row_first (dot_at_lem d h q).1)

  pub uses_none : kind_at S i ≢ kinds.dot → KeyedOf s S env i None
  unfolding keyed_of keyed_record found_field found_node
  uses_none n = record { found = rw (keyed_of, none_here n) refl; node = rw (keyed_record, ne_eqb (kind_at S i) kinds.dot n) refl; kind = tt }

  pub uses : (r : Option ℕ) → kind_at S i ≡ kinds.dot → KeyedFound s S env (i + 1) r → KeyedOf s S env i r
  unfolding keyed_of keyed_record
  uses r q f =
      record {
        found = f.found ∙ rw (keyed_of, dot_here q, add-one i) refl;
        node = f.node ∙ rw (keyed_record, eq-eqb (kind_at S i) kinds.dot q, add-one i) refl;
        kind = f.kind;
      }

  pub no_receiver : kind_at S i ≢ kinds.dot → Answers (expect_asset_receiver (env_of s [] env) (expr_at s i)) (done_of s (Ok tt))
  unfolding expect_asset_receiver if_some done_of
  no_receiver n = rw (expect_asset_receiver, none_here n) (gives tt)

  module _ (q : kind_at S i ≡ kinds.dot) (x : Name) (n : x ≡ name_at s S i) (t u : Bool) (f : t ≡ same x (bytes "merge")) (g : u ≡ same x (bytes "split")) where
    -- the rule, by the method
    receiver : expect_asset_receiver (env_of s [] env) (expr_at s i)
        ≡ expect (not (t || u) || is_pool (env_of s [] env) (expr_at s (suc i))) 30 (span (dot_at s i).base) (receiver_text (dot_at s i).name)
    unfolding expect_asset_receiver if_some is
    receiver =
        let w : is_one x ("merge" ∷ "split" ∷ []) ≡ (t || u) = either_word x "merge" "split" ∙ rw (f, g) refl in
        rw (expect_asset_receiver, dot_here q, dot_told s i (the_dot s S i) (dot_here q), ← n, w) refl

    pub any_receiver : not (t || u) ≡ true → Answers (expect_asset_receiver (env_of s [] env) (expr_at s i)) (done_of s (Ok tt))
    unfolding done_of
    any_receiver z = rw receiver (fits _ 30 _ _ (rw z refl))

    module _ (b : Bool) (z : not (t || u) ≡ false) (p : b ≡ is_pool (env_of s [] env) (expr_at s (i + 1))) where
      on_pool : is_pool (env_of s [] env) (expr_at s (suc i)) ≡ b
      on_pool = sym (rw (add-one i) at p)

      pub pool_judged : (r : Result Unit Refusal) → r ≡ expected b (Receiver i) → Answers (expect_asset_receiver (env_of s [] env) (expr_at s i)) (done_of s r)
      unfolding refusal_of
      pool_judged r v = rw (receiver, z, on_pool) (expects s b (Receiver i) r v)

-- ------------------------------------------------------------ Maps and Registries

module _ (s S : List ℕ) (i : ℕ) (d : Loaded s S) (y : Name) (n : y ≡ name_at s S i) where
  the_name : type_name (type_at s i) ≡ y
  the_name = sym (n ∙ type_name_lem s S i d)

  module _ (x : Name) (b : Bool) (w : b ≡ same y (bytes "Registry")) where
    pub registry_op : (o : Option ℕ) (t : Bool) → b ≡ true → o ≡ place_in x (split (bytes "insert remove contains ")) → t ≡ is_some o → t ≡ keyed_op_fits (type_at s i) x
    unfolding keyed_op_fits is split ended
    registry_op o t q e h = h ∙ one_found x ("insert" ∷ "remove" ∷ "contains" ∷ []) o e ∙ rw (keyed_op_fits, the_name, ← w, q) refl

    module _ (o : Option ℕ) (t : Bool) (q : b ≡ false) (e : o ≡ place_in x (split (bytes "set get contains remove "))) (f : t ≡ is_some o) where
      plain_op : t ≡ is_one x ("set" ∷ "get" ∷ "contains" ∷ "remove" ∷ [])
      unfolding split ended
      plain_op = f ∙ one_found x ("set" ∷ "get" ∷ "contains" ∷ "remove" ∷ []) o e

      pub map_op : t ≡ true → true ≡ keyed_op_fits (type_at s i) x
      unfolding keyed_op_fits is
      map_op g = rw (keyed_op_fits, the_name, ← w, q, ← plain_op, g) refl

      pub amount_op : (m : Bool) (v : Ty) (u : Bool) → t ≡ false → m ≡ is_one x ("credit" ∷ "debit" ∷ []) → v ≡ declared_arg (type_at s i) 1 → u ≡ sameb the_type v Int
          → (m && u) ≡ keyed_op_fits (type_at s i) x
      unfolding keyed_op_fits is
      amount_op m v u z g k l = rw (keyed_op_fits, the_name, ← w, q, ← plain_op, z, ← g, ← k, ← told_ty v Int u l) refl

  module _ (b : Bool) (w : b ≡ same y (bytes "Map")) where
    pub no_map : not b ≡ true → Int ≡ get_ty (type_at s i)
    unfolding get_ty is
    no_map q = rw (get_ty, the_name, ← w, not-true b q) refl

    module _ (v : Ty) (q : not b ≡ false) (u : v ≡ declared_arg (type_at s i) 1) (x z : Bool) (g : x ≡ sameb the_type v Unknown) (k : z ≡ sameb the_type v Time) where
      which : is_ty (declared_arg (type_at s i) 1) (Unknown ∷ Time ∷ []) ≡ (x || z)
      unfolding is_ty
      which = rw (← u, ← told_ty v Unknown x g, ← told_ty v Time z k, or-false) refl

      pub no_value : (x || z) ≡ true → Int ≡ get_ty (type_at s i)
      unfolding get_ty is
      no_value t = rw (get_ty, the_name, ← w, not-false b q, which, t) refl

      pub its_value : (x || z) ≡ false → v ≡ get_ty (type_at s i)
      unfolding get_ty is
      its_value t = u ∙ rw (get_ty, the_name, ← w, not-false b q, which, t) refl

-- ------------------------------------------------------------ what a callee uses

-- the rules of a callee that uses o
module _ (Γ : typing.Env) (e : Expr) (o : Option Field) (g : o ≡ keyed_of Γ e) where
  pub uses_op : op_rule o e ≡ expect_keyed_op Γ e
  unfolding keyed_of op_rule expect_keyed_op if_some
  uses_op = by_cases (dot_of e) g
    where
      by_cases : (x : Option Dot) → o ≡ elim x [ None ↦ None | Some d ↦ keyed_field Γ d.base ]
          → if_some x (λ d. if_some o (λ f. expect (keyed_op_fits f.ty d.name) 31 d.nspan (keyed_op_text d.name f)))
          ≡ if_some x (λ d. if_some (keyed_field Γ d.base) (λ f. expect (keyed_op_fits f.ty d.name) 31 d.nspan (keyed_op_text d.name f)))
      by_cases None q = refl
      by_cases (Some d) q = rw q refl

  pub uses-type : call_ty o e ≡ ty_of_call Γ e
  unfolding keyed_of call_ty method_ty ty_of_call
  uses-type = by_cases (dot_of e) refl
    where
      by_cases : (x : Option Dot) → dot_of e ≡ x → call_ty o e ≡ ty_of_call Γ e
      by_cases None q = rw (call_ty, ty_of_call, q) refl
      by_cases (Some d) q = let u = rw (keyed_of, q) at g in rw (call_ty, ty_of_call, q, u) refl

-- the type of a method: whether it is `contains`, `split` and `get`, which gives g
by_method : Ty → (contains split get : Bool) → Ty
by_method g a b c = elim a [ true ↦ Boolean | false ↦ elim b [ true ↦ Asset | false ↦ elim c [ true ↦ g | false ↦ Unknown ] ] ]

tested : (x : Name) (g : Ty)
    → pick x (("contains", Boolean) ∷ ("split", Asset) ∷ ("get", g) ∷ []) Unknown ≡ by_method g (same x (bytes "contains")) (same x (bytes "split")) (same x (bytes "get"))
unfolding pick is by_method
tested x g = refl

module _ (s S : List ℕ) (keyed : Option ℕ) (d : Loaded s S) (q : FoundKind S kinds.field keyed) where
  its_type : (f : ℕ) → keyed ≡ Some f → (field_at s f).ty ≡ type_at s (suc f)
  its_type f e = (behind kinds.field s S d keyed f e q (omega arith) (omega arith)).field

  module _ (i : ℕ) (x : Name) (n : x ≡ name_at s S i) (a b : Bool) (u : a ≡ same x (bytes "contains")) (v : b ≡ same x (bytes "split")) where
    -- the type by the tests of the method
    by_tests : (c : Bool) → c ≡ same x (bytes "get") → method_ty (name_at s S i) (found_field s keyed) ≡ by_method (ty_of_get (found_field s keyed)) a b c
    unfolding method_ty
    by_tests c w = rw (← n, u, v, w) (tested x (ty_of_get (found_field s keyed)))

    pub by_contains : a ≡ true → Boolean ≡ method_ty (name_at s S i) (found_field s keyed)
    unfolding by_method
    by_contains f = sym (by_tests _ refl ∙ rw f refl)

    pub by_split : a ≡ false → b ≡ true → Asset ≡ method_ty (name_at s S i) (found_field s keyed)
    unfolding by_method
    by_split f g = sym (by_tests _ refl ∙ rw (f, g) refl)

    module _ (f : a ≡ false) (g : b ≡ false) (c : Bool) (w : c ≡ same x (bytes "get")) where
      pub by_other : not c ≡ true → Unknown ≡ method_ty (name_at s S i) (found_field s keyed)
      unfolding by_method
      by_other z = sym (by_tests c w ∙ rw (f, g, not-true c z) refl)

      get_told : not c ≡ false → method_ty (name_at s S i) (found_field s keyed) ≡ ty_of_get (found_field s keyed)
      unfolding by_method
      get_told z = by_tests c w ∙ rw (f, g, not-false c z) refl

      pub by_get : (j : ℕ) (r : Ty) → not c ≡ false → keyed ≡ Some j → r ≡ get_ty (type_at s (j + 1)) → r ≡ method_ty (name_at s S i) (found_field s keyed)
      unfolding ty_of_get found_field get_ty
      by_get j r z k q =
          let y : get_ty (type_at s (j + 1)) ≡ ty_of_get (found_field s keyed) = rw (add-one j, k, its_type j k) refl in
          q ∙ y ∙ sym (get_told z)

      pub no_get : not c ≡ false → keyed ≡ None → Int ≡ method_ty (name_at s S i) (found_field s keyed)
      unfolding ty_of_get found_field
      no_get z k = (let y : Int ≡ ty_of_get (found_field s keyed) = rw k refl in y) ∙ sym (get_told z)

module _ (s S : List ℕ) (i : ℕ) (keyed : Option ℕ) (d : Loaded s S) (h : Callee S i keyed) where
  abbrev JudgesMethod : Result Unit Refusal → Type 0
  JudgesMethod r = Answers (op_rule (found_field s keyed) (expr_at s i)) (done_of s r)

  pub op_nowhere : kind_at S i ≢ kinds.dot → JudgesMethod (Ok tt)
  unfolding op_rule if_some done_of
  op_nowhere z = rw (op_rule, not_dot d h.expr z) (gives tt)

  module _ (z : kind_at S i ≡ kinds.dot) where
    here : dot_of (expr_at s i) ≡ Some (the_dot s S i)
    here = is-dot d h.expr z

    pub no_op : keyed ≡ None → JudgesMethod (Ok tt)
    unfolding op_rule if_some found_field done_of
    no_op e = rw (op_rule, here, e) (gives tt)

    module _ (f : ℕ) (e : keyed ≡ Some f) (x : Name) (n : x ≡ name_at s S i) (b : Bool) (w : b ≡ keyed_op_fits (type_at s (f + 1)) x) where
      op : op_rule (found_field s keyed) (expr_at s i) ≡ expect b 31 (dot_at s i).nspan (keyed_op_text (dot_at s i).name (field_at s f))
      unfolding op_rule if_some found_field
      op =
          let v : keyed_op_fits (field_at s f).ty (name_at s S i) ≡ b = sym (w ∙ rw (its_type s S keyed d h.kind f e, n, add-one f) refl) in
          rw (op_rule, here, e, dot_told s i (the_dot s S i) here, v) refl

      pub op_judged : (r : Result Unit Refusal) → r ≡ expected b (KeyedOp i f) → JudgesMethod r
      unfolding refusal_of
      op_judged r t = rw op (expects s b (KeyedOp i f) r t)

  pub typed_method : (r : Ty) → kind_at S i ≡ kinds.dot → r ≡ method_ty (name_at s S i) (found_field s keyed) → r ≡ call_ty (found_field s keyed) (expr_at s i)
  unfolding call_ty
  typed_method r q f = f ∙ rw (call_ty, is-dot d h.expr q) refl

  module _ (q : kind_at S i ≢ kinds.dot) (t : Bool) (e : t ≡ eqb (kind_at S i) kinds.id) (x : Name) (n : x ≡ name_at s S i) (b : Bool) (w : b ≡ same x (bytes "mint")) where
    mints : ident_is (expr_at s i) "mint" ≡ (t && b)
    unfolding ident_is is
    mints = rw (ident_is, ident_at d h.expr, ← e, ← n, w) (by_cases t)
      where
        by_cases : (t : Bool) → ◌≡◌ {A = Bool} (elim (cond t (Some x) None) [ None ↦ false | Some y ↦ same y (bytes "mint") ]) (t && same x (bytes "mint"))
        by_cases true = refl
        by_cases false = refl

    pub minted : (t && b) ≡ true → Asset ≡ call_ty (found_field s keyed) (expr_at s i)
    unfolding call_ty
    minted z = rw (call_ty, not_dot d h.expr q, mints, z) refl

    pub not_minted : (t && b) ≡ false → Unknown ≡ call_ty (found_field s keyed) (expr_at s i)
    unfolding call_ty
    not_minted z = rw (call_ty, not_dot d h.expr q, mints, z) refl

pub ruleset laws_methods = (loaded_sheet, typed_method, minted, not_minted, by_contains, by_split, by_other, no_get, no_map, no_value, its_value, wants_two, wants_one, wants_none)
