-- The marks that a rule's askings leave are the codes of the lines (`code_of`). Assumes nothing.
use mathlib.Core.Path.{◌≡◌, refl, sym, ap, ◌∙◌}
use mathlib.Core.Logic.{◌≢◌}
use mathlib.Core.List.{List, [], ◌∷◌}
use mathlib.Core.Bool.{Bool, true, false, true≢false, not, ◌&&◌, ◌||◌, cond}
use Prim.Native.Nat.{ℕ, zero, suc, ◌+◌, ◌<◌}
use native.Mathlib.Omega.{arith}
use lib.Dec.{eqb}
use lib.ListN.{length, get_or, replicate, length-replicate}
use lib.Seq.{get_or-set_same, get_or-set_other}
use borrow.Author.Tests.{eqb-true, eqb-false, ne_eqb}
use Rattle.rules.specs.Asking.{Res, ok, refused, Rule, ret, refuse, ask, Asking, Out, concluded, fresh, reached, reached_from, refused_in, first_code, code_of}
use Rattle.rules.specs.declared.ty.Ty.{Ty}
use Rattle.rules.specs.Kept.{Table, put_if, mark, marks, count}
use Rattle.rules.proofs.All.{All, all_append}
use Rattle.rules.proofs.Keeps.{code-marks, length-marks, zeros}
use Rattle.rules.specs.Codes as codes

-- the asking's code is not 0
abbrev pub Coded : Asking → Type 0
Coded a = eqb a.1 0 ≡ false

coded_ended : {A : Type 0} (l : ℕ) (r : Res Ty) (a : List Asking) (f : Ty → Out A) → All Coded a → ((t : Ty) → All Coded (f t).log) → All Coded (concluded l r a f).log
unfolding concluded
coded_ended l (ok t) a f h k = all_append Coded a _ h ((code-marks t).0, k t)
coded_ended l (refused r) a f h k = all_append Coded a _ h (refl, tt)

pub coded : {A : Type 0} (p : Rule A) → All Coded (fresh p).log
unfolding fresh
coded (ret a) = tt
coded (refuse r) = tt
coded (ask g l p k) = coded_ended l (fresh p).res (fresh p).log (λ t. fresh (k t)) (coded p) (λ t. coded (k t))

same_line : (b : Bool) (T : Table) (l c : ℕ) → l < length T → get_or (put_if b T l c) l 0 ≡ cond b c (get_or T l 0)
unfolding put_if
same_line true T l c h = get_or-set_same T l c 0 h
same_line false T l c h = refl

other_line : (b : Bool) (T : Table) (i l c : ℕ) → l ≢ i → get_or (put_if b T i c) l 0 ≡ get_or T l 0
unfolding put_if
other_line true T i l c h = get_or-set_other T i l c 0 h
other_line false T i l c h = refl

-- a line's code after these askings, where it was c before
abbrev after : ℕ → ℕ → List Asking → ℕ
after c l as' = cond (refused_in l as') codes.refused (cond (eqb c 0) (first_code l as') c)

step : (z e r : Bool) (c d f : ℕ) → eqb d 0 ≡ z → eqb c codes.refused ≡ e → eqb c 0 ≡ false
    → cond r codes.refused (cond (eqb (cond (z || e) c d) 0) f (cond (z || e) c d)) ≡ cond (e || r) codes.refused (cond z c d)
step true true true c d f p q h = refl
step true true false c d f p q h = rw h (eqb-true c codes.refused q)
step true false true c d f p q h = refl
step true false false c d f p q h = rw h
step false true true c d f p q h = refl
step false true false c d f p q h = rw h (eqb-true c codes.refused q)
step false false true c d f p q h = refl
step false false false c d f p q h = rw p

one : (b : Bool) (T : Table) (a : Asking) (rest : List Asking) (l : ℕ) → eqb a.0 l ≡ b → l < length T → eqb a.1 0 ≡ false
    → after (get_or (mark T a) l 0) l rest ≡ after (get_or T l 0) l (a ∷ rest)
unfolding mark refused_in first_code
one true T (i, c) rest l e h k =
    rw (e, eqb-true i l e, same_line (eqb (get_or T l 0) 0 || eqb c codes.refused) T l c h)
    (step (eqb (get_or T l 0) 0) (eqb c codes.refused) (refused_in l rest) c (get_or T l 0) (first_code l rest) refl refl k)
one false T (i, c) rest l e h k = rw (e, other_line (eqb (get_or T i 0) 0 || eqb c codes.refused) T i l c (λ q. eqb-false i l e (sym q)))

marked : (as' : List Asking) (T : Table) (l : ℕ) → l < length T → All Coded as' → get_or (marks T as') l 0 ≡ after (get_or T l 0) l as'
unfolding marks refused_in first_code
marked [] T l h k = blank (get_or T l 0)
  where
    blank : (c : ℕ) → c ≡ cond (eqb c 0) 0 c
    blank zero = refl
    blank (suc c) = rw (ne_eqb (suc c) 0 (λ q. omega arith))
marked (a ∷ rest) T l h k =
    marked rest (mark T a) l (rw (length-marks T (a ∷ [])) h) k.1 ∙ one (eqb a.0 l) T a rest l refl h k.0

-- Afterwards a line of the table has its code.
pub marks-code : {A : Type 0} (p : Rule A) (n l : ℕ) → l < n → get_or (marks (replicate n 0) (fresh p).log) l 0 ≡ code_of l (fresh p).log
unfolding code_of
marks-code p n l h = marked (fresh p).log (replicate n 0) l (rw (length-replicate {A = ℕ} n 0) h) (coded p) ∙ rw (zeros n l)

coded_reached : (l : ℕ) (as' : List Asking) → All Coded as' → eqb (code_of l as') 0 ≡ not (reached l as')
unfolding code_of reached refused_in first_code
coded_reached l [] h = refl
coded_reached l ((i, c) ∷ rest) h = by_cases (eqb i l) (eqb c codes.refused) (refused_in l rest) (coded_reached l rest h.1)
  where
    by_cases : (b e r : Bool) → eqb (cond r codes.refused (first_code l rest)) 0 ≡ not (reached l rest) → eqb (cond ((b && e) || r) codes.refused (cond b c (first_code l rest))) 0 ≡ not (b || reached l rest)
    by_cases true true r q = refl
    by_cases true false true q = refl
    by_cases true false false q = h.0
    by_cases false e r q = q

-- A line's code is 0 exactly where the rules don't ask its type.
pub code-reached : {A : Type 0} (p : Rule A) (l : ℕ) → eqb (code_of l (fresh p).log) 0 ≡ not (reached l (fresh p).log)
code-reached p l = coded_reached l (fresh p).log (coded p)

count_from : (T : Table) (i : ℕ) (asked : List Asking) → ((l : ℕ) → l < length T → eqb (get_or T l 0) 0 ≡ not (reached (i + l) asked)) → count T ≡ reached_from i (length T) asked
unfolding count reached_from
count_from [] i asked h = refl
count_from (c ∷ T) i asked h =
    by_cases c (reached i asked) (rw (let e : i + 0 ≡ i = omega arith in e) at (h 0 (omega arith)))
    (count_from T (suc i) asked (λ l q. rw (let e : suc i + l ≡ i + suc l = omega arith in e) (h (suc l) (omega arith))))
  where
    by_cases : (c : ℕ) (b : Bool) → eqb c 0 ≡ not b → count T ≡ reached_from (suc i) (length T) asked
        → count (c ∷ T) ≡ elim b as (λ _. ℕ) [ true ↦ suc (reached_from (suc i) (length T) asked) | false ↦ reached_from (suc i) (length T) asked ]
    by_cases zero true q r = absurd (let z : ◌≡◌ {A = Bool} true false = q in true≢false z)
    by_cases zero false q r = r
    by_cases (suc c) true q r = ap suc r
    by_cases (suc c) false q r = absurd (let z : true ≡ false = sym q ∙ ne_eqb (suc c) 0 (λ w. omega arith) in true≢false z)

-- As many lines are marked as the rules reach.
pub count-reached : {A : Type 0} (p : Rule A) (n : ℕ) → count (marks (replicate n 0) (fresh p).log) ≡ reached_from 0 n (fresh p).log
count-reached p n =
    let T = marks (replicate n 0) (fresh p).log in
    let e : length T ≡ n = length-marks (replicate n 0) (fresh p).log ∙ length-replicate {A = ℕ} n 0 in
    count_from T 0 (fresh p).log (λ l h. rw (let z : 0 + l ≡ l = omega arith in z) (ap (λ c. eqb c 0) (marks-code p n l (rw e at h)) ∙ code-reached p l)) ∙ rw e refl
