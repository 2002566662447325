-- Rules that ask no type, and refuse with a number from 12 on. Assumes nothing.
use mathlib.Core.Path.{◌≡◌, refl}
use mathlib.Core.List.{List, [], ◌∷◌}
use mathlib.Core.Bool.{Bool, true, false}
use Prim.Native.Nat.{ℕ}
use lib.Dec.{leb}
use Rattle.std.specs.Prelude.{Option, Some, None}
use Rattle.rules.specs.Text.{Name, Piece}
use Rattle.rules.specs.Ast.{Type', Arg, of_type, of_int, m_of_n, AssignOp, Expr, leaf, unary, binary, field, call, wrap, Exprs, nil, more, Param, Clause, limits, denies, mints, after, Entry, Stmt, guard, bind, emit, assign, do'}
use Rattle.rules.specs.Asking.{Refusal, Rule, ret, refuse, ◌>>=◌, ◌>>◌, expect, provided, if_some, if_some_else, for_each}
use Rattle.rules.specs.declared.ty.Ty.{Ty}
use Rattle.rules.specs.Declarations.{guardian_bound, storable_arg, storable_args, storable_keyed, known, storable_as, storable, event_field_type, refuse_word64_as_digest}
use Rattle.rules.specs.Model.{Model}
use Rattle.rules.specs.Typing.{Env}
use Rattle.rules.specs.Statements.{name_into_address, wrapping_into_narrow, literal_into_narrow, judge_assign}
use Rattle.rules.specs.Assets.{no_asset_call, no_asset_calls, consumed_asset_call, asset_calls_consumed, reaches, narrow_set, narrow_stmt, wrapped_after, narrow_stmts, narrow_wrapping}
use Rattle.rules.specs.Arithmetic.{check_sum, check_arithmetic}
use Rattle.rules.specs.KeyKinds.{Use, check_uses, check_key_kinds}
use Rattle.rules.specs.Check.{check_local, clause_assets, check_event_param, check_entry_param}

-- a refusal with a number from 12 on
abbrev pub FromTwelve : Refusal → Type 0
FromTwelve r = leb 12 r.number ≡ true

pub data PureAt : (A : Type 0) → Rule A → Type 1 where
  p_ret : {A : Type 0} (a : A) → PureAt A (ret a)
  p_refuse : {A : Type 0} (r : Refusal) → FromTwelve r → PureAt A (refuse r)

abbrev pub Pure : {A : Type 0} → Rule A → Type 1
Pure {A} p = PureAt A p

pub p_bind : {A B : Type 0} {p : Rule A} {f : A → Rule B} → Pure p → ((a : A) → Pure (f a)) → Pure (p >>= f)
unfolding ◌>>=◌
p_bind (p_ret a) k = k a
p_bind (p_refuse r h) k = p_refuse r h

pub p_then : {A B : Type 0} {p : Rule A} {q : Rule B} → Pure p → Pure q → Pure (p >> q)
unfolding ◌>>◌
p_then h k = p_bind h (λ _. k)

pub p_provided : (b : Bool) {p : Rule Unit} → Pure p → Pure (provided b p)
unfolding provided
p_provided true h = h
p_provided false h = p_ret tt

pub p_expect : (b : Bool) (n at : ℕ) (ps : List Piece) → leb 12 n ≡ true → Pure (expect b n at ps)
unfolding expect
p_expect true n at ps h = p_ret tt
p_expect false n at ps h = p_refuse _ h

pub p_some : {A : Type 0} (o : Option A) {f : A → Rule Unit} → ((a : A) → Pure (f a)) → Pure (if_some o f)
unfolding if_some
p_some None k = p_ret tt
p_some (Some a) k = k a

pub p_else : {A : Type 0} (o : Option A) {f : A → Rule Unit} {p : Rule Unit} → ((a : A) → Pure (f a)) → Pure p → Pure (if_some_else o f p)
unfolding if_some_else
p_else None k h = h
p_else (Some a) k h = k a

pub p_for : {A : Type 0} (as' : List A) {f : A → Rule Unit} → ((a : A) → Pure (f a)) → Pure (for_each as' f)
unfolding for_each
p_for [] k = p_ret tt
p_for (a ∷ as') k = p_bind (k a) (λ _. p_for as' k)

pub ruleset pure = (p_ret, p_bind, p_then, p_provided, p_expect, p_some, p_else, p_for)

pub p_guardian : (t : Type') → Pure (guardian_bound t)
unfolding guardian_bound
p_guardian t = search pure

p_arg : (t : Type') (b : Bool) (a : Arg) → Pure (storable_arg t b a)
unfolding storable_arg
p_arg t b (of_type i) = search pure
p_arg t b (of_int x) = search pure
p_arg t b m_of_n = search pure

p_args : (t : Type') (b : Bool) (as' : List Arg) → Pure (storable_args t b as')
unfolding storable_args
p_args t b [] = p_ret tt
p_args t b (a ∷ as') = p_then (p_arg t b a) (p_args t _ as')

p_keyed : (t : Type') (k : ℕ) → Pure (storable_keyed t k)
unfolding storable_keyed
p_keyed t k = search (pure, p_args)

p_known : (t : Type') → Pure (known t)
unfolding known
p_known t = search pure

p_as : (o : Option ℕ) (t : Type') → Pure (storable_as o t)
unfolding storable_as
p_as None t = p_known t
p_as (Some k) t = p_keyed t k

pub p_storable : (t : Type') → Pure (storable t)
unfolding storable
p_storable t = search (pure, p_as)

pub p_digest : (x : Name) (t : Type') → Pure (refuse_word64_as_digest x t)
unfolding refuse_word64_as_digest
p_digest x t = search pure

pub p_event_param : (p : Param) → Pure (check_event_param p)
unfolding check_event_param event_field_type
p_event_param p = search (pure, p_known, p_digest)

pub p_entry_param : (p : Param) → Pure (check_entry_param p)
unfolding check_entry_param
p_entry_param p = search (pure, p_guardian, p_digest)

mutual
  unfolding no_asset_call

  pub p_no_asset : (e : Expr) → Pure (no_asset_call e)
  p_no_asset (leaf l s k) = p_ret tt
  p_no_asset (unary l s o e) = p_no_asset e
  p_no_asset (binary l s o a b) = p_then (p_no_asset a) (p_no_asset b)
  p_no_asset (field l s e x k) = p_no_asset e
  p_no_asset (call l s c es) = p_then (p_then (p_expect _ _ _ _ refl) (p_no_asset c)) (p_no_assets es)
  p_no_asset (wrap l s w e) = p_no_asset e

  p_no_assets : (es : Exprs) → Pure (no_asset_calls es)
  p_no_assets nil = p_ret tt
  p_no_assets (more e es) = p_then (p_no_asset e) (p_no_assets es)

p_consumed : (e : Expr) → Pure (consumed_asset_call e)
unfolding consumed_asset_call
p_consumed e = search (pure, p_no_asset, p_no_assets)

pub p_assets : (s : Stmt) → Pure (asset_calls_consumed s)
unfolding asset_calls_consumed
p_assets (guard e) = p_no_asset e
p_assets (bind x e) = p_consumed e
p_assets (emit x es) = search (pure, p_no_asset)
p_assets (assign s o t v) = search (pure, p_no_asset)
p_assets (do' e) = search (pure, p_no_asset, p_consumed)

pub p_clause_assets : (c : Clause) → Pure (clause_assets c)
unfolding clause_assets
p_clause_assets (limits e) = p_no_asset e
p_clause_assets (denies e) = p_no_asset e
p_clause_assets mints = p_ret tt
p_clause_assets (after t f) = search (pure, p_no_asset)

p_reaches : (xs : List Name) (o : Option ℕ) (e : Expr) (ps : List Piece) → Pure (reaches xs o e ps)
unfolding reaches
p_reaches xs o e ps = search pure

p_narrow_set : (M : Model) (xs : List Name) (e : Expr) → Pure (narrow_set M xs e)
unfolding narrow_set
p_narrow_set M xs e = search (pure, p_reaches) depth 10

p_narrow : (M : Model) (xs : List Name) (s : Stmt) → Pure (narrow_stmt M xs s)
unfolding narrow_stmt
p_narrow M xs (guard e) = p_ret tt
p_narrow M xs (bind x e) = p_ret tt
p_narrow M xs (emit x es) = search (pure, p_reaches)
p_narrow M xs (assign s o t v) = search (pure, p_reaches)
p_narrow M xs (do' e) = p_narrow_set M xs e

p_narrow_all : (M : Model) (xs : List Name) (ss : List Stmt) → Pure (narrow_stmts M xs ss)
unfolding narrow_stmts
p_narrow_all M xs [] = p_ret tt
p_narrow_all M xs (s ∷ ss) = p_then (p_narrow M xs s) (p_narrow_all M (wrapped_after xs s) ss)

pub p_wrapping : (M : Model) (e : Entry) → Pure (narrow_wrapping M e)
unfolding narrow_wrapping
p_wrapping M e = p_narrow_all M [] e.body

p_sum : (e : Entry) (ps : List (Name × Ty)) (s : Stmt) → Pure (check_sum e ps s)
unfolding check_sum
p_sum e ps (guard x) = p_ret tt
p_sum e ps (bind x v) = p_ret tt
p_sum e ps (emit x es) = p_ret tt
p_sum e ps (assign s o t v) = search pure
p_sum e ps (do' x) = p_ret tt

pub p_arithmetic : (e : Entry) (ps : List (Name × Ty)) → Pure (check_arithmetic e ps)
unfolding check_arithmetic
p_arithmetic e ps = search (pure, p_sum)

pub p_uses : (seen us : List Use) → Pure (check_uses seen us)
unfolding check_uses
p_uses seen [] = p_ret tt
p_uses seen (u ∷ us) = p_then (p_expect _ _ _ _ refl) (p_uses (u ∷ seen) us)

pub p_key_kinds : (M : Model) → Pure (check_key_kinds M)
unfolding check_key_kinds
p_key_kinds M = p_uses [] _

p_address : (Γ : Env) (o : AssignOp) (x : Name) (v : Expr) (s g : Ty) → Pure (name_into_address Γ o x v s g)
unfolding name_into_address
p_address Γ o x v s g = search pure

p_wrap : (Γ : Env) (x : Name) (v : Expr) → Pure (wrapping_into_narrow Γ x v)
unfolding wrapping_into_narrow
p_wrap Γ x v = search pure

p_literal : (Γ : Env) (x : Name) (v : Expr) → Pure (literal_into_narrow Γ x v)
unfolding literal_into_narrow
p_literal Γ x v = search pure

pub p_assign : (Γ : Env) (o : AssignOp) (t v : Expr) (s g : Ty) → Pure (judge_assign Γ o t v s g)
unfolding judge_assign
p_assign Γ o t v s g = search (pure, p_address, p_wrap, p_literal) depth 12

pub p_local : (e : Expr) (t : Ty) → Pure (check_local e t)
unfolding check_local
p_local e t = search pure

pub ruleset pure_declared = (pure, p_guardian, p_storable, p_digest, p_event_param, p_entry_param)
