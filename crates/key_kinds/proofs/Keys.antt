-- Keyed calls, maps and keys, as the code tells them. Assumes nothing.
use mathlib.Core.Logic.{◌≢◌}
use mathlib.Core.Path.{◌≡◌, refl, sym, ap, ◌∙◌}
use mathlib.Core.List.{List, [], ◌∷◌}
use mathlib.Core.Bool.{Bool, true, false, not, ◌&&◌, ◌||◌}
use Prim.Native.Nat.{ℕ, suc, ◌+◌, ◌<◌}
use native.Mathlib.Numerals.{add-one}
use native.Mathlib.Omega.{arith}
use lib.Dec.{eqb}
use lib.ListN.{length}
use borrow.Author.Tests.{eq-eqb, ne_eqb}
use mir.Val.{Fits}
use mir.Syntax.{w64}
use Rattle.std.specs.Bool.{then_some}
use Rattle.std.specs.Prelude.{Option, Some, None, is_some}
use Rattle.text.specs.Text.{bytes, same, ended}
use Rattle.text.specs.Word.{place_in, split}
use Rattle.grammar.specs.Grammar as grammar
use Rattle.sheet.specs.Scratch.{kind_at, name_at, call_arg_count}
use Rattle.rules.specs.Text.{Name, is, is_one, among}
use Rattle.rules.specs.Arithmetic.{any}
use Rattle.rules.specs.Ast.{type_name}
use Rattle.rules.specs.KeyKinds.{is_keyed, is_name_key, name_params}
use Rattle.rules.specs.Standing.{expr_at, field_at, entry_at, model_in, Loaded, Here}
use Rattle.rules.proofs.Exprs.{ident_at}
use Rattle.rules.proofs.Records.{field_at_lem}
use Rattle.rules.proofs.Rows.{among_any}
use Rattle.lookups.specs.Found.{found_field, FieldNamed}
use Rattle.lookups.proofs.Tables.{one_found}
use Rattle.lookups.proofs.Types.{type_name_lem}
use Rattle.key_kinds.specs.Uses.{keyed_at, names_at, MapNamed}
use Rattle.grammar.specs.Kinds as kinds

-- ------------------------------------------------------------ keyed calls

module _ (s S : List ℕ) (i : ℕ) where
  pub no_call : kind_at S i ≢ kinds.call → false ≡ keyed_at s S i
  unfolding keyed_at
  no_call q = rw (keyed_at, ne_eqb (kind_at S i) kinds.call q) refl

  module _ (q : kind_at S i ≡ kinds.call) (m : ℕ) (a b : Bool) (em : m ≡ call_arg_count S i) (ea : a ≡ eqb (kind_at S (i + 1)) kinds.dot) (eb : b ≡ eqb (kind_at S (i + 2)) kinds.id) where
    shape : Bool
    shape = not (eqb m 0) && (a && b)

    by_shape : keyed_at s S i ≡ (shape && is_one (name_at s S (suc i)) ("set" ∷ "get" ∷ "contains" ∷ "insert" ∷ "remove" ∷ "credit" ∷ "debit" ∷ []))
    unfolding keyed_at shape
    by_shape =
        let two : suc (suc i) ≡ i + 2 = omega arith in
        rw (keyed_at, two, ← add-one i, ← eb, ← ea, ← em, eq-eqb (kind_at S i) kinds.call q) refl

    pub no_key : (eqb m 0 || not (a && b)) ≡ true → false ≡ keyed_at s S i
    unfolding shape
    no_key h = sym (by_shape ∙ by_cases (eqb m 0) (a && b) h _)
      where
        by_cases : (a b : Bool) → (a || not b) ≡ true → (t : Bool) → ((not a && b) && t) ≡ false
        by_cases true b z t = refl
        by_cases false true z t = absurd (let w : ◌≡◌ {A = ℕ} 0 1 = cc in omega arith)
        by_cases false false z t = refl

    pub is_keyed_lem : (eqb m 0 || not (a && b)) ≡ false → (o : Option ℕ) (x : Name) (t : Bool) → x ≡ name_at s S (i + 1)
        → o ≡ place_in x (split (bytes "set get contains insert remove credit debit ")) → t ≡ is_some o → t ≡ keyed_at s S i
    unfolding shape split ended
    is_keyed_lem h o x t ex eo et =
        et
        ∙ sym
        (by_shape
        ∙ by_cases (eqb m 0) (a && b) h _
        ∙ rw (← add-one i, ← ex) (sym (one_found x ("set" ∷ "get" ∷ "contains" ∷ "insert" ∷ "remove" ∷ "credit" ∷ "debit" ∷ []) o eo)))
      where
        by_cases : (a b : Bool) → (a || not b) ≡ false → (t : Bool) → ((not a && b) && t) ≡ t
        by_cases true b z t = absurd (let w : ◌≡◌ {A = ℕ} 0 1 = cc in omega arith)
        by_cases false true z t = refl
        by_cases false false z t = absurd (let w : ◌≡◌ {A = ℕ} 0 1 = cc in omega arith)

-- ------------------------------------------------------------ maps

module _ (s S : List ℕ) (x : Name) (d : Loaded s S) (r : Option ℕ) (n : FieldNamed s S x r) where
  pub no_field : r ≡ None → MapNamed s S x None
  unfolding is_keyed found_field
  no_field e =
      record { keyed = rw (is_keyed, ← n.found, e) refl; field = λ f q. absurd (let z : ◌≡◌ {A = ℕ} 0 1 = cc in omega arith) }

  module _ (f : ℕ) (e : r ≡ Some f) where
    at : FieldNamed s S x (Some f)
    at = rw e at n

    pub behind_fits : length S < 18446744073709551616 → Fits w64 (f + 1)
    behind_fits h = omega (arith, at.kind.0)

    module _ (y : Name) (b : Bool) (ey : y ≡ name_at s S (f + 1)) (eb : b ≡ is_one y ("Map" ∷ "Registry" ∷ [])) where
      keyed : is_keyed (model_in s) x ≡ b
      unfolding is_keyed found_field
      keyed =
          let g = field_at_lem d at.kind.0 at.kind.1 in
          let q : type_name (field_at s f).ty ≡ y = rw g.0 (sym (ey ∙ ap (name_at s S) (add-one f) ∙ type_name_lem s S (suc f) d)) in
          rw (is_keyed, ← at.found, q, eb) refl

      pub is-map : (o : Option ℕ) → o ≡ then_some b f → MapNamed s S x o
      is-map o z = rw z (by_cases b keyed)
        where
          by_cases : (b : Bool) → is_keyed (model_in s) x ≡ b → MapNamed s S x (then_some b f)
          by_cases true e = record { keyed = e; field = λ g q. rw (← q) at }
          by_cases false e = record { keyed = e; field = λ g q. absurd (let z : ◌≡◌ {A = ℕ} 0 1 = cc in omega arith) }

-- ------------------------------------------------------------ keys

-- What `is_name_key` meets.
module _ (s S : List ℕ) (e key : ℕ) (d : Loaded s S) (g : Here S grammar.Expr key) where
  pub no_name : kind_at S key ≢ kinds.id → false ≡ is_name_key (names_at s e) (expr_at s key)
  unfolding is_name_key
  no_name q = rw (is_name_key, ident_at d g, ne_eqb (kind_at S key) kinds.id q) refl

  its_name : kind_at S key ≡ kinds.id → is_name_key (names_at s e) (expr_at s key) ≡ among (name_at s S key) (names_at s e)
  unfolding is_name_key
  its_name q = rw (is_name_key, ident_at d g, eq-eqb (kind_at S key) kinds.id q) refl

  pub any_name : (x : Name) (b : Bool) → kind_at S key ≡ kinds.id → x ≡ name_at s S key → b ≡ any (λ p. same (type_name p.ty) (bytes "Q_Name") && same x p.name) (entry_at s e).params → b ≡ is_name_key (names_at s e) (expr_at s key)
  unfolding names_at name_params is
  any_name x b q ex eb =
      eb ∙ sym (among_any (λ p. is (type_name p.ty) "Q_Name") (λ p. p.name) name_params refl (λ p ps. refl) x (entry_at s e).params) ∙ rw ex (sym (its_name q))
