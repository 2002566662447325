-- Terms that are bounded. Assumes nothing.
use mathlib.Core.Logic.{◌≢◌}
use mathlib.Core.Path.{◌≡◌, refl, sym, ap, ◌∙◌}
use mathlib.Core.List.{List, map}
use mathlib.Core.Bool.{Bool, true, false, not, ◌&&◌, ◌||◌}
use Prim.Native.Nat.{ℕ, suc, ◌+◌}
use native.Mathlib.Numerals.{add-one}
use native.Mathlib.Omega.{arith}
use borrow.Author.Tests.{eq-eqb, ne_eqb, not-true, not-false}
use Rattle.std.specs.Prelude.{Option, Some, None, is_some, option_map}
use Rattle.text.specs.Text.{bytes, same}
use Rattle.grammar.specs.Grammar as grammar
use Rattle.sheet.specs.Scratch.{kind_at, name_at, param_count}
use Rattle.rules.specs.Text.{Name, is, among, last_named, get}
use Rattle.rules.specs.Ast.{Entry, Param, param_of, type_name}
use Rattle.rules.specs.declared.ty.Ty.{Ty}
use Rattle.rules.specs.Types.{ty_of_decl}
use Rattle.rules.specs.Model.{is_asset_param}
use Rattle.rules.specs.Typing.{ident_of}
use Rattle.rules.specs.Arithmetic.{any, amount_of, is_minted_amount, bounded_addend, is_mints, asset_params, bounded}
use Rattle.rules.specs.Check.{param_types}
use Rattle.rules.specs.Standing.{node_name, nodes_at, expr_at, params_at, entry_at, Loaded, Here}
use Rattle.rules.proofs.Exprs.{int_at, ident_at, is_dot_at, dot_at_lem}
use Rattle.rules.proofs.Standing.{row_first}
use Rattle.rules.proofs.Rows.{among_any}
use Rattle.lookups.specs.Found.{found_node, Stretch, Last, of_kind}
use Rattle.lookups.specs.Lines.{KindAt}
use Rattle.lookups.proofs.Fields.{last_map, all_kind, param-name}
use Rattle.lookups.proofs.Finding.{among_last}
use Rattle.arithmetic.specs.Tests.{names, amount_bounded}
use Rattle.arithmetic.proofs.Rows.{parts_of_lem}
use Rattle.grammar.specs.Kinds as kinds

both_not : (a b : Bool) → b ≡ false → (a && b) ≡ false
both_not true b e = e
both_not false b e = refl

both_yes : (a b : Bool) → b ≡ true → a ≡ (a && b)
both_yes true b e = sym e
both_yes false b e = refl

-- ------------------------------------------------------------ is_param

some_map : {A B : Type 0} (f : A → B) (o : Option A) → is_some (option_map f o) ≡ is_some o
some_map f None = refl
some_map f (Some a) = refl

-- a parameter of the name has a type
pub typed_names : (x : Name) (ps : List Param) → is_some (get x (param_types ps)) ≡ among x (names ps)
unfolding get param_types
typed_names x ps =
    rw (get, last_map {B = Name × Ty} (λ p. (p.name, ty_of_decl p.ty)) (λ e. e.0) (λ p. p.name) x (λ p. refl) ps)
    (by_cases (last_named (λ p. p.name) x ps) ∙ sym (among_last (λ p. p.name) x ps))
  where
    by_cases : (o : Option Param)
        → is_some {T = Ty} (elim (option_map {U = Name × Ty} (λ p. (p.name, ty_of_decl p.ty)) o) as (λ _. Option Ty) [ None ↦ None | Some e ↦ Some e.1 ]) ≡ is_some o
    by_cases None = refl
    by_cases (Some p) = refl

-- What `is_param` meets: m parameters.
module _ (s S : List ℕ) (i m : ℕ) (d : Loaded s S) (h : KindAt kinds.entry S i) (c : m ≡ param_count S i) where
  pub params_stretch : Stretch S m (i + 1)
  params_stretch = rw (c, add-one i) (record { sort = grammar.Param; row = (parts_of_lem s S i d h).params })

  module _ (x : Name) (r : Option ℕ) (l : Last s S kinds.param x m (i + 1) r) where
    by_search : among x (names (entry_at s i).params) ≡ is_some (found_node s r)
    unfolding params_at
    by_search =
        let q = parts_of_lem s S i d h in
        let ns = nodes_at s (param_count S i) (suc i) in
        let all : of_kind kinds.param ns ≡ ns = all_kind kinds.param (λ i a. omega (arith, a.kind.0, a.kind.1)) d q.params in
        rw q.is
        (among_last (λ p. p.name) x (map param_of ns)
        ∙ ap is_some (last_map param_of (λ p. p.name) node_name x param-name ns)
        ∙ some_map param_of (last_named node_name x ns)
        ∙ rw (l.found, c, add-one i, all) refl)

    pub a_param : (b : Bool) → b ≡ is_some r → b ≡ among x (names (entry_at s i).params)
    unfolding found_node
    a_param b e = sym (by_search ∙ by_cases r ∙ sym e)
      where
        by_cases : (r : Option ℕ) → is_some (found_node s r) ≡ is_some r
        by_cases (Some j) = refl
        by_cases None = refl

-- ------------------------------------------------------------ is_asset_param

pub an_asset : (x : Name) (ps : List Param) (b : Bool) → b ≡ any (λ p. same (type_name p.ty) (bytes "Q_Asset") && same x p.name) ps → b ≡ among x (asset_params ps)
unfolding asset_params is_asset_param is
an_asset x ps b e = e ∙ sym (among_any is_asset_param (λ p. p.name) asset_params refl (λ p ps. refl) x ps)

-- ------------------------------------------------------------ bounded

-- What `amount_bounded` meets.
module _ (E : Entry) (x : Name) (a : Bool) (e : a ≡ among x (asset_params E.params)) where
  pub amount_asset : a ≡ true → true ≡ amount_bounded E x
  unfolding amount_bounded
  amount_asset q = rw (amount_bounded, ← e, q) refl

  module _ (q : a ≡ false) (b : Bool) (f : b ≡ among x (names E.params)) where
    pub amount_other : not b ≡ true → false ≡ amount_bounded E x
    unfolding amount_bounded
    amount_other g = sym (rw (amount_bounded, ← e, q) (both_not (any is_mints E.clauses) (among x (names E.params)) (sym f ∙ not-true b g)))

    pub amount_mints : (r : Bool) → not b ≡ false → r ≡ any is_mints E.clauses → r ≡ amount_bounded E x
    unfolding amount_bounded
    amount_mints r g k = k ∙ rw (amount_bounded, ← e, q) (both_yes (any is_mints E.clauses) (among x (names E.params)) (sym f ∙ not-false b g))

-- What `bounded` meets.
module _ (s S : List ℕ) (E : Entry) (i : ℕ) (d : Loaded s S) (h : Here S grammar.Expr i) where
  pub literal : kind_at S i ≡ kinds.int → true ≡ bounded E (expr_at s i)
  unfolding bounded bounded_addend
  literal q = rw (bounded, bounded_addend, int_at d h, eq-eqb (kind_at S i) kinds.int q) refl

  module _ (n : kind_at S i ≢ kinds.int) where
    -- a term that is no literal is bounded as an amount
    by_amount : bounded E (expr_at s i) ≡ (amount_of (expr_at s i) (asset_params E.params) || (any is_mints E.clauses && amount_of (expr_at s i) (names E.params)))
    unfolding bounded bounded_addend is_minted_amount
    by_amount = rw (bounded, bounded_addend, int_at d h, ne_eqb (kind_at S i) kinds.int n) refl

    no_amount : ((xs : List Name) → amount_of (expr_at s i) xs ≡ false) → false ≡ bounded E (expr_at s i)
    no_amount f = sym (by_amount ∙ rw (f (asset_params E.params)) (both_not (any is_mints E.clauses) (amount_of (expr_at s i) (names E.params)) (f (names E.params))))

    pub no_dot : kind_at S i ≢ kinds.dot → false ≡ bounded E (expr_at s i)
    unfolding amount_of
    no_dot m = no_amount (λ xs. rw (amount_of, is_dot_at d h, ne_eqb (kind_at S i) kinds.dot m) refl)

    module _ (q : kind_at S i ≡ kinds.dot) (y : Name) (b : Bool) (f : y ≡ name_at s S i) (g : b ≡ same y (bytes "amount")) where
      base : Here S grammar.Expr (suc i)
      base = row_first (dot_at_lem d h q).1

      the_dot_lem : (xs : List Name) → amount_of (expr_at s i) xs ≡ (b && elim (ident_of (expr_at s (i + 1))) [ None ↦ false | Some x ↦ among x xs ])
      unfolding amount_of is
      the_dot_lem xs = rw (amount_of, is_dot_at d h, eq-eqb (kind_at S i) kinds.dot q, ← f, ← g, add-one i) refl

      pub no_amount_name : not b ≡ true → false ≡ bounded E (expr_at s i)
      no_amount_name z = no_amount (λ xs. the_dot_lem xs ∙ rw (not-true b z) refl)

      module _ (z : not b ≡ false) where
        pub no_ident : kind_at S (i + 1) ≢ kinds.id → false ≡ bounded E (expr_at s i)
        no_ident m =
            no_amount (λ xs. the_dot_lem xs ∙ rw (not-false b z, add-one i, ident_at d base, ← add-one i, ne_eqb (kind_at S (i + 1)) kinds.id m) refl)

        pub ident_amount : (x : Name) (r : Bool) → kind_at S (i + 1) ≡ kinds.id → x ≡ name_at s S (i + 1) → r ≡ amount_bounded E x → r ≡ bounded E (expr_at s i)
        unfolding amount_bounded
        ident_amount x r m u v =
            let w : (xs : List Name) → amount_of (expr_at s i) xs ≡ among x xs =
            λ xs. the_dot_lem xs ∙ rw (not-false b z, add-one i, ident_at d base, ← add-one i, ← u, eq-eqb (kind_at S (i + 1)) kinds.id m) refl in
            v ∙ sym (by_amount ∙ rw (w (asset_params E.params), w (names E.params)) refl)
