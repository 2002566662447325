-- Rules that refuse nothing. Assumes nothing.
use mathlib.Core.Path.{◌≡◌, refl, sym, ◌∙◌}
use mathlib.Core.List.{List, [], ◌∷◌, ◌++◌}
use Prim.Native.Nat.{ℕ}
use native.Mathlib.Omega.{arith}
use Rattle.rules.specs.Asking.{Res, ok, refused, Rule, ret, refuse, ask, ◌>>=◌, ◌>>◌, for_each, Asking, concluded, fresh}
use Rattle.rules.specs.declared.ty.Ty.{Ty}
use Rattle.rules.specs.Model.{Model}
use Rattle.related.proofs.Alike.{Alike, outcomes}
use Rattle.related.proofs.Compared.{renumbered, renumbered_result}

pub record Passes (p : Rule Unit) : Type 0 where
  pub passed : (fresh p).res ≡ ok tt

abbrev bind_res : {A B : Type 0} → Res A → (A → Res B) → Res B
bind_res (ok a) f = f a
bind_res (refused r) f = refused r

bind_res_lem : {A B : Type 0} (p : Rule A) (f : A → Rule B) → (fresh (p >>= f)).res ≡ bind_res (fresh p).res (λ a. (fresh (f a)).res)
unfolding fresh ◌>>=◌ concluded
bind_res_lem (ret a) f = refl
bind_res_lem (refuse r) f = refl
bind_res_lem (ask g l p k) f = by_cases (fresh p).res (fresh p).log (λ t. bind_res_lem (k t) f)
  where
    by_cases : (r : Res Ty) (as' : List Asking) → ((t : Ty) → (fresh (k t >>= f)).res ≡ bind_res (fresh (k t)).res (λ a. (fresh (f a)).res))
        → (concluded l r as' (λ t. fresh (k t >>= f))).res ≡ bind_res (concluded l r as' (λ t. fresh (k t))).res (λ a. (fresh (f a)).res)
    by_cases (ok t) as' h = h t
    by_cases (refused r) as' h = refl

pub passes_then : {p q : Rule Unit} → Passes p → Passes q → Passes (p >> q)
unfolding ◌>>◌
passes_then {p} {q} h k = record { passed = bind_res_lem p (λ _. q) ∙ rw (h.passed, k.passed) }

pub passes_parts : {p q : Rule Unit} → Passes (p >> q) → Passes p × Passes q
unfolding ◌>>◌
passes_parts {p} {q} h = by_cases (fresh p).res refl (sym (bind_res_lem p (λ _. q)) ∙ h.passed)
  where
    by_cases : (r : Res Unit) → (fresh p).res ≡ r → bind_res r (λ _. (fresh q).res) ≡ ok tt → Passes p × Passes q
    by_cases (ok tt) e k = (record { passed = e }, record { passed = k })
    by_cases (refused r) e k = absurd (let z : ◌≡◌ {A = ℕ} 0 1 = cc in omega arith)

-- two rules that pass, and a third that passes part by part where they do
pub passes_both : {p p' q q' r r' : Rule Unit} → (Passes p → Passes q → Passes r) → (Passes p' → Passes q' → Passes r') → Passes (p >> p') → Passes (q >> q') → Passes (r >> r')
passes_both f g h k = let a = passes_parts h in let b = passes_parts k in passes_then (f a.0 b.0) (g a.1 b.1)

pub passes_append : {A : Type 0} (f : A → Rule Unit) (as' bs : List A) → Passes (for_each as' f) → Passes (for_each bs f) → Passes (for_each (as' ++ bs) f)
unfolding for_each ◌>>◌
passes_append f [] bs h k = k
passes_append f (a ∷ as') bs h k = let q = passes_parts {p = f a} {q = for_each as' f} h in passes_then {p = f a} q.0 (passes_append f as' bs q.1 k)

pub passes_alike : (m n : Model) {p q : Rule Unit} → Alike (renumbered m n) p q → Passes p → Passes q
passes_alike m n h k = record { passed = sym (renumbered_result m n (outcomes h)) ∙ k.passed }
