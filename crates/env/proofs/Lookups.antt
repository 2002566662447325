-- Lookups by name among the lines that an `Env` tells. Assumes nothing.
use mathlib.Core.Logic.{◌≢◌}
use mathlib.Core.Path.{◌≡◌, refl, sym, ap, ◌∙◌}
use mathlib.Core.List.{List, [], ◌∷◌, map, map-map}
use mathlib.Core.Bool.{Bool, true, false, true≢false}
use Prim.Native.Nat.{ℕ, suc, ◌+◌, ◌<◌, ◌≤◌}
use native.Mathlib.Numerals.{add-one}
use native.Mathlib.Omega.{arith}
use lib.ListN.{length, get_or}
use borrow.Author.Tests.{eq-eqb, ne_eqb}
use Rattle.std.specs.Bool.{then_some}
use Rattle.std.specs.Option.{option_eq}
use Rattle.std.specs.Prelude.{Option, Some, None, is_some, unwrap_or, option_map}
use Rattle.text.specs.Text.{bytes, same}
use Rattle.grammar.specs.Grammar as grammar
use Rattle.sheet.specs.Load.{sorts, copies}
use Rattle.sheet.specs.Scratch.{kind_at, name_at, line_count}
use Rattle.sheet.specs.Tree.{Node, node}
use Rattle.rules.specs.Text.{Name, is, is_one, last_named, get}
use Rattle.rules.specs.Ast.{param_of, type_name}
use Rattle.rules.specs.declared.ty.Ty.{Ty}
use Rattle.rules.specs.declared.ty.Ty.TheVariants.{Address, Name as TName, Unknown}
use denote.Enum.Bare.{sameb}
use Rattle.rules.specs.contracts.ty.Ty.{the_type as ty_type}
use Rattle.rules.proofs.Same.{same_ty}
use Rattle.rules.specs.Kept.{Table, ty_from, ty_of_mark}
use Rattle.rules.specs.Types.{ty_of_decl, eq_ty}
use Rattle.rules.specs.Check.{param_types}
use Rattle.rules.specs.Typing as typing
use Rattle.rules.specs.Typing.{ident_of, ty_of_ident, is_name_param, keyed_field, is_pool}
use Rattle.rules.specs.Standing.{node_name, nodes_at, expr_at, type_at, field_at, param_at, Loaded, Here}
use Rattle.rules.proofs.Exprs.{ident_at}
use Rattle.rules.proofs.Parts.{parts}
use Rattle.rules.proofs.Standing.{Stands, stands, row_behind, row_first, loaded_sheet}
use Rattle.lookups.specs.Found.{of_kind, found_node, found_field, FoundKind, Last, FieldNamed}
use Rattle.lookups.proofs.Fields.{last_map, all_kind, param-name}
use Rattle.lookups.proofs.Types.{type_name_lem}
pub use Rattle.lookups.proofs.Behind.{TypeBehind, behind, found_typed, found_next}
use Rattle.env.specs.Force.{params_in, local_of, lets, env_of, InForce, field_ty, field_node, keyed_node, FieldFound, KeyedFound}
use Rattle.env.specs.declared.env.Env.{Env}
use Rattle.grammar.specs.Kinds as kinds

-- ------------------------------------------------------------ what a map has

get-map : {A B : Type 0} (g : A → Name × B) (f : A → Name) (x : Name) → ((a : A) → (g a).0 ≡ f a) → (as' : List A)
    → get x (map g as') ≡ option_map (λ a. (g a).1) (last_named f x as')
unfolding get
get-map {A} {B} g f x e as' = rw (get, last_map g (λ p. p.0) f x e as') (by_cases (last_named f x as'))
  where
    by_cases : (o : Option A) → elim (option_map g o) as (λ _. Option B) [ None ↦ None | Some p ↦ Some p.1 ] ≡ option_map (λ a. (g a).1) o
    by_cases None = refl
    by_cases (Some a) = refl

-- ------------------------------------------------------------ parameters

abbrev param_ty : Node → Name × Ty
param_ty t = ((param_of t).name, ty_of_decl (param_of t).ty)

params-list : (s : List ℕ) (env : Env) → params_in s env ≡ map param_ty (nodes_at s env.count env.params)
unfolding params_in param_types
params-list s env = map-map (λ p. (p.name, ty_of_decl p.ty)) param_of (nodes_at s env.count env.params)

module _ (s S : List ℕ) (env : Env) (x : Name) (d : Loaded s S) (h : InForce S env) (r : Option ℕ) (l : Last s S kinds.param x env.count env.params r) where
  param_got : get x (params_in s env) ≡ option_map (λ t. (param_ty t).1) (found_node s r)
  param_got =
      let ns = nodes_at s env.count env.params in
      let all : of_kind kinds.param ns ≡ ns = all_kind kinds.param (λ i a. omega (arith, a.kind.0, a.kind.1)) d h.params in
      ap (get x) (params-list s env) ∙ get-map param_ty node_name x param-name ns ∙ rw (l.found, all) refl

  pub param_there : (i : ℕ) (v : Ty) → r ≡ Some i → v ≡ ty_of_decl (type_at s (i + 1)) → Some v ≡ get x (params_in s env)
  unfolding found_node param_at
  param_there i v e q =
      let t = behind kinds.param s S d r i e l.kind (omega arith) (omega arith) in
      rw (q, param_got, e, t.param, add-one i) refl

  pub no_param : r ≡ None → None ≡ get x (params_in s env)
  unfolding found_node
  no_param e = rw (param_got, e) refl

there : (o : Option Ty) → is_some o ≡ true → (t : Ty) × (o ≡ Some t)
there None e = absurd (true≢false (sym e))
there (Some t) e = (t, refl)

unmarked : (o : Option Ty) → is_some o ≡ false → o ≡ None
unmarked None e = refl
unmarked (Some t) e = absurd (true≢false e)

-- ------------------------------------------------------------ state fields

module _ (s S : List ℕ) (x : Name) (d : Loaded s S) (r : Option ℕ) (n : FieldNamed s S x r) where
  pub field_there : (i : ℕ) (v : Ty) → r ≡ Some i → v ≡ ty_of_decl (type_at s (i + 1)) → v ≡ field_ty s x
  unfolding found_field field_ty
  field_there i v e q =
      let t = behind kinds.field s S d r i e n.kind (omega arith) (omega arith) in
      q ∙ rw (field_ty, ← n.found, e, t.field, add-one i) refl

  module _ (b : Bool) (e : r ≡ None) (w : b ≡ same x (bytes "deployer")) where
    pub deployer : b ≡ true → Address ≡ field_ty s x
    unfolding found_field field_ty is
    deployer q = rw (field_ty, ← n.found, e, ← w, q) refl

    pub no_field : b ≡ false → Unknown ≡ field_ty s x
    unfolding found_field field_ty is
    no_field q = rw (field_ty, ← n.found, e, ← w, q) refl

-- ------------------------------------------------------------ locals

local_name : (T : Table) (t : Node) → (local_of T t).0 ≡ node_name t
unfolding local_of node_name
local_name T (node i l ps) = refl

-- the value of a `let` that was found has a byte in the table
module _ (s S : List ℕ) (T : Table) (d : Loaded s S) (h : line_count S ≤ length T) (r : Option ℕ) (f : FoundKind S kinds.let' r) (i : ℕ) (e : r ≡ Some i) where
  let_at : (i < line_count S) × (kind_at S i ≡ kinds.let')
  let_at = let q : FoundKind S kinds.let' (Some i) = rw e at f in q

  let_line : Stands s S i
  let_line = stands d i let_at.0

  pub value_within : i + 1 < length T
  unfolding sorts copies
  value_within =
      let g = parts let_line.line kinds.let' let_line.parted (sym let_line.says.kind ∙ let_at.1) in
      let q = row_first (row_behind {σ = grammar.Expr} 1 [] let_line (rw g refl)) in
      omega (arith, q.within, h)

module _ (s S : List ℕ) (env : Env) (T : Table) (x : Name) (d : Loaded s S) (h : line_count S ≤ length T) (o : Option Ty) (p : o ≡ get x (params_in s env)) where
  pub by_param : (ty : Ty) → o ≡ Some ty → ty ≡ ty_of_ident (env_of s T env) x
  unfolding ty_of_ident env_of
  by_param ty n = rw (ty_of_ident, ← p, n) refl

  module _ (z : o ≡ None) (r : Option ℕ) (l : Last s S kinds.let' x env.bound env.body r) where
    no_such : get x (params_in s env) ≡ None
    no_such = sym p ∙ z

    local_got : get x (map (local_of T) (lets s env.bound env.body)) ≡ option_map (λ t. (local_of T t).1) (found_node s r)
    unfolding lets
    local_got = get-map (local_of T) node_name x (local_name T) (lets s env.bound env.body) ∙ rw l.found refl

    pub by_local : (i : ℕ) → r ≡ Some i → (v : ℕ) (m : Option Ty) (c : Ty) → v ≡ get_or T (i + 1) 0 → m ≡ ty_of_mark v → c ≡ unwrap_or m Unknown → c ≡ ty_of_ident (env_of s T env) x
    unfolding ty_of_ident env_of found_node lets local_of ty_from
    by_local i e v m c f w k =
        let here = (let_line s S T d h r l.kind i e).here in
        let g : get x (map (local_of T) (lets s env.bound env.body)) ≡ Some (ty_from (get_or T (suc i) 0)) = local_got ∙ rw (e, here) refl in
        k ∙ rw (w, f, add-one i, ty_of_ident, no_such, g) refl

    pub by_field : (v : Ty) → r ≡ None → v ≡ field_ty s x → v ≡ ty_of_ident (env_of s T env) x
    unfolding ty_of_ident env_of found_node field_ty
    by_field v e f =
        let g : get x (map (local_of T) (lets s env.bound env.body)) ≡ None = local_got ∙ rw e refl in
        f ∙ rw (ty_of_ident, no_such, g) refl

-- ------------------------------------------------------------ bare names

module _ (s S : List ℕ) (env : Env) (i : ℕ) (d : Loaded s S) (h : Here S grammar.Expr i) where
  no_ident : kind_at S i ≢ kinds.id → ident_of (expr_at s i) ≡ None
  no_ident n = ident_at d h ∙ rw (ne_eqb (kind_at S i) kinds.id n) refl

  pub no_name : kind_at S i ≢ kinds.id → false ≡ is_name_param (env_of s [] env) (expr_at s i)
  unfolding is_name_param
  no_name n = rw (is_name_param, no_ident n) refl

  pub no_state : kind_at S i ≢ kinds.id → FieldFound s S env i None
  unfolding typing.state_field_of field_node found_field found_node
  no_state n = record { found = rw (typing.state_field_of, no_ident n) refl; node = rw (field_node, no_ident n) refl; kind = tt }

  module _ (q : kind_at S i ≡ kinds.id) (x : Name) (n : x ≡ name_at s S i) (o : Option Ty) (p : o ≡ get x (params_in s env)) where
    the_ident : ident_of (expr_at s i) ≡ Some x
    the_ident = ident_at d h ∙ rw (eq-eqb (kind_at S i) kinds.id q, n) refl

    pub name-param : (b : Bool) → b ≡ option_eq (sameb ty_type) o (Some TName) → b ≡ is_name_param (env_of s [] env) (expr_at s i)
    unfolding is_name_param env_of
    name-param b f = f ∙ rw (is_name_param, the_ident, p) (by_cases (get x (params_in s env)))
      where
        by_cases : (o : Option Ty) → option_eq (sameb ty_type) o (Some TName) ≡ elim o [ None ↦ false | Some t ↦ eq_ty t TName ]
        by_cases None = refl
        by_cases (Some t) = same_ty t TName

    pub hidden : is_some o ≡ true → FieldFound s S env i None
    unfolding typing.state_field_of field_node env_of found_field found_node
    hidden z =
        let g = there (get x (params_in s env)) (rw (← p) z) in
        record { found = rw (typing.state_field_of, the_ident, g.1) refl; node = rw (field_node, the_ident, g.1) refl; kind = tt }

    pub field_found : (r : Option ℕ) → is_some o ≡ false → FieldNamed s S x r → FieldFound s S env i r
    unfolding typing.state_field_of field_node env_of
    field_found r z f =
        let g = unmarked (get x (params_in s env)) (rw (← p) z) in
        record { found = f.found ∙ rw (typing.state_field_of, the_ident, g) refl; node = f.node ∙ rw (field_node, the_ident, g) refl; kind = f.kind }

-- ------------------------------------------------------------ fields by their type

module _ (s S : List ℕ) (env : Env) (i : ℕ) (d : Loaded s S) (r : Option ℕ) (f : FieldFound s S env i r) where
  pub nothing_keyed : r ≡ None → KeyedFound s S env i None
  unfolding keyed_field keyed_node found_field found_node
  nothing_keyed e = record { found = rw (keyed_field, ← f.found, e) refl; node = rw (keyed_node, ← f.node, e) refl; kind = tt }

  pub no_pool : r ≡ None → false ≡ is_pool (env_of s [] env) (expr_at s i)
  unfolding is_pool found_field
  no_pool e = rw (is_pool, ← f.found, e) refl

  module _ (j : ℕ) (e : r ≡ Some j) (y : Name) (n : y ≡ name_at s S (j + 1)) where
    the_type : type_name (field_at s j).ty ≡ y
    the_type =
        let t = behind kinds.field s S d r j e f.kind (omega arith) (omega arith) in
        rw (t.field, n, add-one j) (sym (type_name_lem s S (suc j) d))

    pub pool : (b : Bool) → b ≡ same y (bytes "Q_Asset") → b ≡ is_pool (env_of s [] env) (expr_at s i)
    unfolding is_pool found_field is
    pool b w = w ∙ rw (is_pool, ← f.found, e, the_type) refl

    pub keyed : (b : Bool) → b ≡ is_one y ("Map" ∷ "Registry" ∷ []) → (o : Option ℕ) → o ≡ then_some b j → KeyedFound s S env i o
    unfolding keyed_field keyed_node found_field found_node field_at
    keyed b w o q = rw q (by_cases b w)
      where
        by_cases : (t : Bool) → t ≡ is_one y ("Map" ∷ "Registry" ∷ []) → KeyedFound s S env i (then_some t j)
        by_cases true t =
            record { found = rw (keyed_field, ← f.found, e, the_type, ← t) refl; node = rw (keyed_node, ← f.node, e, the_type, ← t) refl; kind = rw e at f.kind }
        by_cases false t = record { found = rw (keyed_field, ← f.found, e, the_type, ← t) refl; node = rw (keyed_node, ← f.node, e, the_type, ← t) refl; kind = tt }

pub ruleset laws_lookups = (loaded_sheet, pool, no_pool, by_param, value_within, by_local, by_field, deployer, no_field, no_param, param_there, no_name)
