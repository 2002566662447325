-- Request 14, on models: two pass together where each passes and no expression or field of one names a state field of the other, and no
-- `emit` an event of it. Assumes nothing.
use mathlib.Core.Path.{◌≡◌, refl, sym, ap}
use mathlib.Core.List.{List, [], ◌∷◌, ◌++◌, append_assoc, Forall₂}
use mathlib.Core.Bool.{Bool, true, false, not, ◌&&◌, beq}
use Prim.Native.Nat.{ℕ}
use native.Mathlib.Omega.{arith}
use Rattle.std.specs.Prelude.{Option, Some, None}
use Rattle.text.specs.Text.{same}
use Rattle.text.proofs.Words.{same-is}
use Rattle.text.proofs.Tests.{or_parts}
use Rattle.rules.specs.Text.{Name, Piece}
use Rattle.rules.specs.Ast.{Field, Entry, span}
use Rattle.rules.specs.Asking.{Rule, expect, for_each, fresh}
use Rattle.rules.specs.Model.{Model, joined, values}
use Rattle.rules.specs.Arithmetic.{any}
use Rattle.rules.specs.KeyKinds.{Keyed, Use, is_keyed, is_name_key, name_params, keyed_in, entry_exprs, uses_of, uses, differs, check_uses, check_key_kinds}
use Rattle.rules.specs.Check.{before_entries, check}
use Rattle.rules.proofs.All.{All, all_append, all_map}
use Rattle.related.proofs.Alike.{Alike, a_same, a_each}
use Rattle.rules.proofs.Pure.{pure_declared}
use Rattle.related.proofs.Like.{same_new, same-genesis}
use Rattle.related.proofs.LikeStatements.{a_predicate}
use Rattle.related.proofs.LikeEntries.{uses_like}
use Rattle.related.proofs.LikeCheck.{PartLike, a_entry, a_check_field, a_genesis, values_like}
use Rattle.related.proofs.Compared.{renumbered}
use Rattle.related.proofs.Unrefused.{Passes, passes_then, passes_parts, passes_both, passes_append, passes_alike}
use Rattle.related.proofs.Lookups.{field_in, last_before}

-- ------------------------------------------------------------ fields that are the last of their names

values-append : (fs gs : List Field) → All (λ f. field_in f.name gs ≡ None) fs → values (fs ++ gs) ≡ values fs ++ values gs
unfolding values
values-append [] gs h = refl
values-append (f ∷ fs) gs h = rw (values, last_before f.name fs gs h.0) (by_cases (field_in f.name fs) (values-append fs gs h.1))
  where
    by : List Field → Option Field → List Field
    by vs o = elim o [ Some g ↦ vs | None ↦ f ∷ vs ]

    by_cases : (o : Option Field) → values (fs ++ gs) ≡ values fs ++ values gs → by (values (fs ++ gs)) o ≡ by (values fs) o ++ values gs
    by_cases (Some g) e = e
    by_cases None e = ap (λ vs. f ∷ vs) e

-- ------------------------------------------------------------ keys

any_append : (p : Use → Bool) (us vs : List Use) → any p us ≡ false → any p vs ≡ false → any p (us ++ vs) ≡ false
unfolding any
any_append p [] vs h k = k
any_append p (u ∷ us) vs h k = let q = or_parts (p u) (any p us) h in rw q.0 (any_append p us vs q.1 k)

passes_test : (b : Bool) (n at : ℕ) (ps : List Piece) → Passes (expect (not b) n at ps) → b ≡ false
unfolding expect fresh
passes_test true n at ps h = absurd (let z : ◌≡◌ {A = ℕ} 0 1 = cc h.passed in omega arith)
passes_test false n at ps h = refl

test_passes : (b : Bool) (n at : ℕ) (ps : List Piece) → b ≡ false → Passes (expect (not b) n at ps)
unfolding expect fresh
test_passes b n at ps e = rw e (record { passed = refl })

-- none of the uses vs differs from one of us
abbrev Agree : List Use → List Use → Type 0
Agree us vs = All (λ v. any (differs v) us ≡ false) vs

seen_more : (seen other us : List Use) → Agree other us → Passes (check_uses seen us) → Passes (check_uses (seen ++ other) us)
unfolding check_uses
seen_more seen other [] h k = k
seen_more seen other (u ∷ us) h k =
    let q = passes_parts k in
    passes_then (test_passes _ _ _ _ (any_append (differs u) seen other (passes_test _ _ _ _ q.0) h.0)) (seen_more (u ∷ seen) other us h.1 q.1)

uses_pass : (seen us vs : List Use) → Agree seen vs → Agree us vs → Passes (check_uses seen us) → Passes (check_uses [] vs) → Passes (check_uses seen (us ++ vs))
unfolding check_uses any
uses_pass seen [] vs a b h k = seen_more [] seen vs a k
uses_pass seen (u ∷ us) vs a b h k =
    let q = passes_parts h in
    passes_then q.0 (uses_pass (u ∷ seen) us vs (both vs a b) (all_map _ _ (λ v e. (or_parts (differs v u) (any (differs v) us) e).1) vs b) q.1 k)
  where
    both : (vs : List Use) → Agree seen vs → Agree (u ∷ us) vs → Agree (u ∷ seen) vs
    both [] a b = tt
    both (v ∷ vs) a b = (rw ((or_parts (differs v u) (any (differs v) us) b.0).0, a.0), both vs a.1 b.1)

all_uses_append : (m : Model) (es fs : List Entry) → uses m (es ++ fs) ≡ uses m es ++ uses m fs
unfolding uses
all_uses_append m [] fs = refl
all_uses_append m (e ∷ es) fs = rw (all_uses_append m es fs) (sym (append_assoc (uses_of m (name_params e.params) (keyed_in (entry_exprs e))) (uses m es) (uses m fs)))

-- a use is of a Map or Registry
abbrev OfKeyed : Model → Use → Type 0
OfKeyed m u = is_keyed m u.map ≡ true

of_keyed : (m : Model) (names : List Name) (ks : List Keyed) → All (OfKeyed m) (uses_of m names ks)
unfolding uses_of
of_keyed m names [] = tt
of_keyed m names (k ∷ ks) = by_cases (is_keyed m k.0) refl (of_keyed m names ks)
  where
    told : Use
    told = record { map = k.0; is_name = is_name_key names k.1; at = span k.1 }

    by_cases : (b : Bool) → is_keyed m k.0 ≡ b → All (OfKeyed m) (uses_of m names ks) → All (OfKeyed m) (elim b [ true ↦ told ∷ uses_of m names ks | false ↦ uses_of m names ks ])
    by_cases true e r = (e, r)
    by_cases false e r = r

uses_keyed : (m : Model) (es : List Entry) → All (OfKeyed m) (uses m es)
unfolding uses
uses_keyed m [] = tt
uses_keyed m (e ∷ es) = all_append (OfKeyed m) (uses_of m (name_params e.params) (keyed_in (entry_exprs e))) (uses m es) (of_keyed m (name_params e.params) (keyed_in (entry_exprs e))) (uses_keyed m es)

module _ (m n : Model) (disjoint : (x : Name) → is_keyed m x ≡ true → is_keyed n x ≡ true → ⊥) where
  differ_not : (u v : Use) → OfKeyed m u → OfKeyed n v → differs v u ≡ false
  unfolding differs
  differ_not u v h k = by_cases (same v.map u.map) refl
    where
      by_cases : (b : Bool) → same v.map u.map ≡ b → (b && not (beq v.is_name u.is_name)) ≡ false
      by_cases true e = absurd (disjoint u.map h (rw (same-is v.map u.map e) at k))
      by_cases false e = refl

  none_differs : (us : List Use) (v : Use) → All (OfKeyed m) us → OfKeyed n v → any (differs v) us ≡ false
  unfolding any
  none_differs [] v h k = refl
  none_differs (u ∷ us) v h k = rw (differ_not u v h.0 k, none_differs us v h.1 k)

  agree : (us vs : List Use) → All (OfKeyed m) us → All (OfKeyed n) vs → Agree us vs
  agree us vs h k = all_map (OfKeyed n) _ (λ v q. none_differs us v h q) vs k

nothing_seen : (vs : List Use) → Agree [] vs
unfolding any
nothing_seen [] = tt
nothing_seen (v ∷ vs) = (refl, nothing_seen vs)

-- ------------------------------------------------------------ the theorem

-- the first model M stands as A in the joined one, the second N as B
module _ (M N A B : Model) (a : PartLike (renumbered M (joined A B)) M A) (b : PartLike (renumbered N (joined A B)) N B)
    (last : All (λ f. field_in f.name B.fields ≡ None) A.fields) (disjoint : (x : Name) → is_keyed M x ≡ true → is_keyed N x ≡ true → ⊥) where
  abbrev J : Model
  J = joined A B

  -- one list of each, and the two behind one another
  each_joined : {X : Type 0} {Q R : X → X → Type 0} {f g h : X → Rule Unit} {xs ys us vs : List X}
      → Forall₂ Q xs us → Forall₂ R ys vs
      → ((x u : X) → Q x u → Alike (renumbered M J) (f x) (h u)) → ((y v : X) → R y v → Alike (renumbered N J) (g y) (h v))
      → Passes (for_each xs f) → Passes (for_each ys g) → Passes (for_each (us ++ vs) h)
  each_joined {us = us} {vs = vs} q r e d j k = passes_append _ us vs (passes_alike M J (a_each q e) j) (passes_alike N J (a_each r d) k)

  before-joined : Passes (before_entries M) → Passes (before_entries N) → Passes (before_entries J)
  unfolding before_entries joined
  before-joined =
      passes_both (each_joined a.fields b.fields (λ f g q. a_check_field (same_new refl) q) (λ f g q. a_check_field (same_new refl) q))
      (passes_both (λ h k. passes_append _ A.events B.events (rw (← a.events) h) (rw (← b.events) k))
      (passes_both
      (λ h k.
      rw (values-append A.fields B.fields last)
      (each_joined (values_like a.fields) (values_like b.fields) (λ f g q. rw q.head.ty (a_same (search pure_declared))) (λ f g q. rw q.head.ty (a_same (search pure_declared))) h k))
      (passes_both (each_joined a.entries b.entries (λ f g q. rw q.params (a_same (search pure_declared))) (λ f g q. rw q.params (a_same (search pure_declared))))
      (each_joined a.invariants b.invariants (λ f g q. a_predicate (same_new refl) q) (λ f g q. a_predicate (same_new refl) q)))))

  keys_joined : Passes (check_key_kinds M) → Passes (check_key_kinds N) → Passes (check_key_kinds J)
  unfolding check_key_kinds joined
  keys_joined h k =
      let u : uses M M.entries ≡ uses J A.entries = uses_like (renumbered M J) a.entries in
      let v : uses N N.entries ≡ uses J B.entries = uses_like (renumbered N J) b.entries in
      let us : List Use = uses M M.entries in
      let vs : List Use = uses N N.entries in
      rw (all_uses_append J A.entries B.entries, ← u, ← v)
      (uses_pass [] us vs (nothing_seen vs) (agree M N disjoint us vs (uses_keyed M M.entries) (uses_keyed N N.entries)) h k)

  pub check-joined : Passes (check M) → Passes (check N) → Passes (check J)
  unfolding check joined
  check-joined =
      passes_both before-joined
      (passes_both (each_joined a.entries b.entries (λ f g q. a_entry q) (λ f g q. a_entry q))
      (passes_both keys_joined (each_joined a.genesis b.genesis (λ f g q. a_genesis (same-genesis (same_new refl)) q) (λ f g q. a_genesis (same-genesis (same_new refl)) q))))
