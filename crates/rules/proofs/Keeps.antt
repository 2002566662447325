-- The rules with kept types give what the fresh rules give, and leave the marks of their askings.
use mathlib.Core.Path.{◌≡◌, refl, sym, ◌∙◌, ap}
use mathlib.Core.Logic.{◌⊎◌, inl, inr}
use mathlib.Core.List.{List, [], ◌∷◌, ◌++◌}
use mathlib.Core.Bool.{Bool, true, false, ◌||◌}
use Prim.Native.Nat.{ℕ, zero, suc, ◌<◌}
use native.Mathlib.Omega.{arith}
use lib.Dec.{eqb}
use lib.ListN.{length, get_or, set, replicate, length-set}
use lib.Seq.{get_or-set_same, get_or-set_other, set-get_or}
use borrow.Author.Tests.{eqb-true, eqb-false, eq-eqb}
use Rattle.std.specs.Prelude.{Some, None}
use Rattle.rules.specs.Asking.{code, Res, ok, refused, Rule, ret, refuse, ask, Asking, code_r, Out, concluded, fresh, Refusal}
use Rattle.rules.specs.declared.ty.Ty.{Ty}
use Rattle.rules.specs.declared.ty.Ty.TheVariants.{Int, Bool as Boolean, Address, Asset, Word64, Name as TName, Time, Str, Collection, Unknown}
use Rattle.rules.specs.Kept.{Table, ty_of_mark, Kept, stored, retyped, kept, put_if, mark, marks}
use Rattle.rules.proofs.All.{All, all_append, all_map}
use Rattle.rules.specs.Codes as codes

-- ------------------------------------------------------------ marks

marks-append : (T : Table) (a b : List Asking) → marks T (a ++ b) ≡ marks (marks T a) b
unfolding marks
marks-append T [] b = refl
marks-append T (x ∷ a) b = marks-append (mark T x) a b

length-put : (b : Bool) (T : Table) (l c : ℕ) → length (put_if b T l c) ≡ length T
unfolding put_if
length-put true T l c = length-set T l c
length-put false T l c = refl

pub length-marks : (T : Table) (a : List Asking) → length (marks T a) ≡ length T
unfolding marks mark
length-marks T [] = refl
length-marks T (a ∷ rest) = length-marks (mark T a) rest ∙ length-put (eqb (get_or T a.0 0) 0 || eqb a.1 codes.refused) T a.0 a.1

pub zeros : (n l : ℕ) → ◌≡◌ {A = ℕ} (get_or (replicate n 0) l 0) 0
zeros zero l = refl
zeros (suc n) zero = refl
zeros (suc n) (suc l) = zeros n l

abbrev pub Marked : Table → ℕ → Type 0
Marked T l = eqb (get_or T l 0) 0 ≡ false

-- a line that is marked stays so
set_stays : (T : Table) (i c l : ℕ) → (eqb (get_or T i 0) 0 || eqb c codes.refused) ≡ true → Marked T l → Marked (set T i c) l
set_stays [] i c l t e = e
set_stays (x ∷ T) zero c zero t e = eleven (rw e at t)
  where
    eleven : eqb c codes.refused ≡ true → eqb c 0 ≡ false
    eleven q = rw (eqb-true c codes.refused q)
set_stays (x ∷ T) zero c (suc l) t e = e
set_stays (x ∷ T) (suc i) c zero t e = e
set_stays (x ∷ T) (suc i) c (suc l) t e = set_stays T i c l t e

put_stays : (b : Bool) (T : Table) (i c l : ℕ) → (eqb (get_or T i 0) 0 || eqb c codes.refused) ≡ b → Marked T l → Marked (put_if b T i c) l
unfolding put_if
put_stays true T i c l t e = set_stays T i c l t e
put_stays false T i c l t e = e

marks_stay : (T : Table) (a : List Asking) (l : ℕ) → Marked T l → Marked (marks T a) l
unfolding marks mark
marks_stay T [] l e = e
marks_stay T (a ∷ rest) l e =
    marks_stay (mark T a) rest l (put_stays (eqb (get_or T a.0 0) 0 || eqb a.1 codes.refused) T a.0 a.1 l refl e)

-- the asking has left its mark, and was no refusal
abbrev pub Settled : Table → Asking → Type 0
Settled T a = Marked T a.0 × (eqb a.1 codes.refused ≡ false)

mark-settled : (T : Table) (a : Asking) → Settled T a → mark T a ≡ T
unfolding mark put_if
mark-settled T a h = rw (h.0, h.1)

mark-new : (T : Table) (l c : ℕ) → eqb (get_or T l 0) 0 ≡ true → mark T (l, c) ≡ set T l c
unfolding mark put_if
mark-new T l c h = rw h

mark-refused : (T : Table) (l : ℕ) → mark T (l, codes.refused) ≡ set T l codes.refused
unfolding mark put_if
mark-refused T l = by_cases (eqb (get_or T l 0) 0)
  where
    by_cases : (b : Bool) → put_if (b || true) T l codes.refused ≡ set T l codes.refused
    by_cases true = refl
    by_cases false = refl

settled-marks : (T : Table) (a : List Asking) → All (Settled T) a → marks T a ≡ T
unfolding marks
settled-marks T [] h = refl
settled-marks T (a ∷ rest) h =
    ap (λ (S : Table). marks S rest) (mark-settled T a h.0) ∙ settled-marks T rest h.1

-- T1 has every mark that T has
abbrev Above : Table → Table → Type 0
Above T T1 = (l : ℕ) → Marked T l → Marked T1 l

settled_above : (T T1 : Table) (as' : List Asking) → Above T T1 → All (Settled T) as' → All (Settled T1) as'
settled_above T T1 as' u h = all_map (Settled T) (Settled T1) (λ a k. (u a.0 k.0, k.1)) as' h

pub code_tells : (t : Ty) → ty_of_mark (code t) ≡ Some t
unfolding ty_of_mark code
code_tells Int = refl
code_tells Boolean = refl
code_tells Address = refl
code_tells Asset = refl
code_tells Word64 = refl
code_tells TName = refl
code_tells Time = refl
code_tells Str = refl
code_tells Collection = refl
code_tells Unknown = refl

pub code-marks : (t : Ty) → (eqb (code t) 0 ≡ false) × (eqb (code t) codes.refused ≡ false)
unfolding code
code-marks Int = (refl, refl)
code-marks Boolean = (refl, refl)
code-marks Address = (refl, refl)
code-marks Asset = (refl, refl)
code-marks Word64 = (refl, refl)
code-marks TName = (refl, refl)
code-marks Time = (refl, refl)
code-marks Str = (refl, refl)
code-marks Collection = (refl, refl)
code-marks Unknown = (refl, refl)

pub kept_some : {A : Type 0} (g : Bool) (l : ℕ) (p : Rule Ty) (k : Ty → Rule A) (T : Table) (t : Ty) → g ≡ false → ty_of_mark (get_or T l 0) ≡ Some t → kept (ask g l p k) T ≡ kept (k t) T
unfolding kept
kept_some g l p k T t h e = rw (e, h, kept)

pub kept_again : {A : Type 0} (g : Bool) (l : ℕ) (p : Rule Ty) (k : Ty → Rule A) (T : Table) (t : Ty) → g ≡ true → ty_of_mark (get_or T l 0) ≡ Some t
    → kept (ask g l p k) T ≡ retyped l (kept p T).res (kept p T).table (λ u U. kept (k u) U)
unfolding kept
kept_again g l p k T t h e = rw (e, h, kept)

pub kept_unmarked : {A : Type 0} (g : Bool) (l : ℕ) (p : Rule Ty) (k : Ty → Rule A) (T : Table) → ty_of_mark (get_or T l 0) ≡ None
    → kept (ask g l p k) T ≡ stored (kept p T).res (set (kept p T).table l (code_r (kept p T).res)) (λ t T1. kept (k t) T1)
unfolding kept
kept_unmarked g l p k T e = rw (e, kept)

kept_none : {A : Type 0} (g : Bool) (l : ℕ) (p : Rule Ty) (k : Ty → Rule A) (T : Table) → get_or T l 0 ≡ 0
    → kept (ask g l p k) T ≡ stored (kept p T).res (set (kept p T).table l (code_r (kept p T).res)) (λ t T1. kept (k t) T1)
unfolding ty_of_mark
kept_none g l p k T e = kept_unmarked g l p k T (ap ty_of_mark e)

pub fresh_ok : {A : Type 0} (g : Bool) (l : ℕ) (p : Rule Ty) (k : Ty → Rule A) (t : Ty) → (fresh p).res ≡ ok t
    → fresh (ask g l p k) ≡ record { res = (fresh (k t)).res; log = (fresh p).log ++ ((l, code t) ∷ (fresh (k t)).log) }
unfolding fresh concluded
fresh_ok g l p k t e = rw (e, fresh)

pub fresh-refused : {A : Type 0} (g : Bool) (l : ℕ) (p : Rule Ty) (k : Ty → Rule A) (r : Refusal) → (fresh p).res ≡ refused r
    → fresh (ask g l p k) ≡ record { res = refused r; log = (fresh p).log ++ ((l, codes.refused) ∷ []) }
unfolding fresh concluded
fresh-refused g l p k r e = rw (e, fresh)

-- ------------------------------------------------------------ the theorem

-- Q holds of each asking in the rule, where R says which answers an asking may have.
abbrev pub Throughout : (Bool → ℕ → Rule Ty → Type 0) → (Rule Ty → Ty → Type 0) → {A : Type 0} → Rule A → Type 0
Throughout Q R (ret a) = Unit
Throughout Q R (refuse r) = Unit
Throughout Q R (ask g l p k) = Q g l p × Throughout Q R p × ((t : Ty) → R p t → Throughout Q R (k t))

-- P holds of the asking's line
abbrev pub OfLine : (ℕ → Type 0) → Bool → ℕ → Rule Ty → Type 0
OfLine P g l p = P l

-- any answer
abbrev pub Any : Rule Ty → Ty → Type 0
Any p t = Unit

pub throughout_map : (P Q : ℕ → Type 0) → ((l : ℕ) → P l → Q l) → {A : Type 0} (p : Rule A) → Throughout (OfLine P) Any p → Throughout (OfLine Q) Any p
throughout_map P Q f (ret a) h = tt
throughout_map P Q f (refuse r) h = tt
throughout_map P Q f (ask g l p k) h = (f l h.0, throughout_map P Q f p h.1, λ t u. throughout_map P Q f (k t) (h.2 t u))

-- the asking is of a line below n, types it as m says, and is no exception
abbrev pub Mapped : (ℕ → Out Ty) → ℕ → Bool → ℕ → Rule Ty → Type 0
Mapped m n g l p = (fresh p ≡ m l) × (l < n) × (g ≡ false)

-- the answer is the one that typing afresh gives
abbrev pub Afresh : Rule Ty → Ty → Type 0
Afresh p t = (fresh p).res ≡ ok t

abbrev pub Coherent : (ℕ → Out Ty) → ℕ → {A : Type 0} → Rule A → Type 0
Coherent m n = Throughout (Mapped m n) Afresh

-- A marked line holds the type that m says, and all that m asks for it is marked.
pub record Right (m : ℕ → Out Ty) (T : Table) (l : ℕ) : Type 0 where
  pub type : Ty
  pub typed : (m l).res ≡ ok type
  pub holds : get_or T l 0 ≡ code type
  pub parts : All (Settled T) (m l).log

abbrev pub Consistent : (ℕ → Out Ty) → Table → Type 0
Consistent m T = (l : ℕ) → (get_or T l 0 ≡ 0) ⊎ Right m T l

-- What the kept rule gave on T agrees with what the fresh rule gives.
pub record Agrees (m : ℕ → Out Ty) (T : Table) {A : Type 0} (x : Kept A) (o : Out A) : Type 0 where
  pub res : x.res ≡ o.res
  pub table : x.table ≡ marks T o.log
  pub after : (a : A) → o.res ≡ ok a → Consistent m x.table × All (Settled x.table) o.log

abbrev pub Keeps : (ℕ → Out Ty) → {A : Type 0} → Rule A → Table → Type 0
Keeps m p T = Agrees m T (kept p T) (fresh p)

set_marked : (T : Table) (i c l : ℕ) → eqb c 0 ≡ false → Marked T l → Marked (set T i c) l
set_marked [] i c l t e = e
set_marked (x ∷ T) zero c zero t e = t
set_marked (x ∷ T) zero c (suc l) t e = e
set_marked (x ∷ T) (suc i) c zero t e = e
set_marked (x ∷ T) (suc i) c (suc l) t e = set_marked T i c l t e

holds_marked : (T : Table) (l : ℕ) (t : Ty) → get_or T l 0 ≡ code t → Marked T l
holds_marked T l t e = rw e (code-marks t).0

-- a marked line's type is answered from the table
answered : (m : ℕ → Out Ty) {A : Type 0} (g : Bool) (l : ℕ) (p : Rule Ty) (k : Ty → Rule A) (T : Table)
    → g ≡ false → fresh p ≡ m l → (q : Right m T l) → Keeps m (k q.type) T → Keeps m (ask g l p k) T
unfolding marks
answered m g l p k T gf c q ih =
    let t : Ty = q.type in
    let marked : Marked T l = holds_marked T l t q.holds in
    let parts : All (Settled T) (fresh p).log = rw c q.parts in
    let U : Table = (kept (k t) T).table in
    let up : Above T U = λ i h. rw ih.table (marks_stay T (fresh (k t)).log i h) in
    rw (kept_some g l p k T t gf (ap ty_of_mark q.holds ∙ code_tells t), fresh_ok g l p k t (ap (λ (o : Out Ty). o.res) c ∙ q.typed))
    (record {
      res = ih.res;
      table =
          ih.table
          ∙ sym
          (marks-append T (fresh p).log ((l, code t) ∷ (fresh (k t)).log)
          ∙ ap (λ (S : Table). marks S ((l, code t) ∷ (fresh (k t)).log)) (settled-marks T (fresh p).log parts)
          ∙ ap (λ (S : Table). marks S (fresh (k t)).log) (mark-settled T (l, code t) (marked, (code-marks t).1)));
      after = λ a e. (
        (ih.after a e).0,
        all_append (Settled U) (fresh p).log ((l, code t) ∷ (fresh (k t)).log)
            (settled_above T U (fresh p).log up parts)
            ((up l marked, (code-marks t).1), (ih.after a e).1),
      );
    })

-- the mark of a line that has just been typed
mark_typed : (m : ℕ → Out Ty) (T : Table) (l : ℕ) (t : Ty) → (m l).res ≡ ok t → (get_or T l 0 ≡ 0) ⊎ Right m T l → mark T (l, code t) ≡ set T l (code t)
mark_typed m T l t e (inl z) = mark-new T l (code t) (eq-eqb (get_or T l 0) 0 z)
mark_typed m T l t e (inr q) =
    let same : q.type ≡ t = cc (q.typed, e) in
    let holds : get_or T l 0 ≡ code t = q.holds ∙ ap code same in
    mark-settled T (l, code t) (holds_marked T l t holds, (code-marks t).1) ∙ sym (rw holds at (set-get_or T l 0))

consistent_set : (m : ℕ → Out Ty) (T : Table) (l : ℕ) (t : Ty) → l < length T → (m l).res ≡ ok t → All (Settled T) (m l).log → Consistent m T → Consistent m (set T l (code t))
consistent_set m T l t h e s w = λ i. pick i (eqb i l) refl (w i)
  where
    U : Table
    U = set T l (code t)

    up : Above T U
    up i k = set_marked T l (code t) i (code-marks t).0 k

    pick : (i : ℕ) (b : Bool) → eqb i l ≡ b → (get_or T i 0 ≡ 0) ⊎ Right m T i → (get_or U i 0 ≡ 0) ⊎ Right m U i
    pick i true q x =
        rw (eqb-true i l q)
        (inr (record { type = t; typed = e; holds = get_or-set_same T l (code t) 0 h; parts = settled_above T U (m l).log up s }))
    pick i false q (inl z) = inl (get_or-set_other T l i (code t) 0 (eqb-false i l q) ∙ z)
    pick i false q (inr r) =
        inr
        (record {
          type = r.type;
          typed = r.typed;
          holds = get_or-set_other T l i (code t) 0 (eqb-false i l q) ∙ r.holds;
          parts = settled_above T U (m i).log up r.parts;
        })

-- an unmarked line is typed and marked
typed : (m : ℕ → Out Ty) {A : Type 0} (g : Bool) (l : ℕ) (p : Rule Ty) (k : Ty → Rule A) (T : Table)
    → fresh p ≡ m l → l < length T → get_or T l 0 ≡ 0 → Keeps m p T
    → ((t : Ty) (T1 : Table) → (fresh p).res ≡ ok t → length T1 ≡ length T → Consistent m T1 → Keeps m (k t) T1)
    → (r : Res Ty) → (fresh p).res ≡ r → Keeps m (ask g l p k) T
unfolding stored code_r marks
typed m g l p k T c h z ih next (refused r) e =
    rw (kept_none g l p k T z, fresh-refused g l p k r e, ih.res, e)
    (record {
      res = refl;
      table =
          sym
          (marks-append T (fresh p).log ((l, codes.refused) ∷ [])
          ∙ ap (λ (S : Table). mark S (l, codes.refused)) (sym ih.table)
          ∙ mark-refused (kept p T).table l);
      after = λ a q. absurd (let y : ◌≡◌ {A = ℕ} 0 1 = cc q in omega arith);
    })
typed m g l p k T c h z ih next (ok t) e =
    let S0 : Table = (kept p T).table in
    let U : Table = set S0 l (code t) in
    let lv : length S0 ≡ length T = ap length ih.table ∙ length-marks T (fresh p).log in
    let mt : (m l).res ≡ ok t = sym (ap (λ (o : Out Ty). o.res) c) ∙ e in
    let wv : Consistent m S0 = (ih.after t e).0 in
    let sv : All (Settled S0) (fresh p).log = (ih.after t e).1 in
    let wu : Consistent m U = consistent_set m S0 l t (rw lv h) mt (rw (← c) sv) wv in
    let by_cases : Keeps m (k t) U = next t U e (length-set S0 l (code t) ∙ lv) wu in
    let marked : Marked U l = rw (get_or-set_same S0 l (code t) 0 (rw lv h)) (code-marks t).0 in
    let W : Table = (kept (k t) U).table in
    let up : Above U W = λ i q. rw by_cases.table (marks_stay U (fresh (k t)).log i q) in
    let uv : Above S0 U = λ i q. set_marked S0 l (code t) i (code-marks t).0 q in
    rw (kept_none g l p k T z, fresh_ok g l p k t e, ih.res, e)
    (record {
      res = by_cases.res;
      table =
          by_cases.table
          ∙ sym
          (marks-append T (fresh p).log ((l, code t) ∷ (fresh (k t)).log)
          ∙ ap (λ (S : Table). marks S ((l, code t) ∷ (fresh (k t)).log)) (sym ih.table)
          ∙ ap (λ (S : Table). marks S (fresh (k t)).log) (mark_typed m S0 l t mt (wv l)));
      after = λ a q. (
        (by_cases.after a q).0,
        all_append (Settled W) (fresh p).log ((l, code t) ∷ (fresh (k t)).log)
            (settled_above S0 W (fresh p).log (λ i x. up i (uv i x)) sv)
            ((up l marked, (code-marks t).1), (by_cases.after a q).1),
      );
    })

step : (m : ℕ → Out Ty) {A : Type 0} (g : Bool) (l : ℕ) (p : Rule Ty) (k : Ty → Rule A) (T : Table)
    → g ≡ false → fresh p ≡ m l → l < length T → Keeps m p T
    → ((t : Ty) (T1 : Table) → (fresh p).res ≡ ok t → length T1 ≡ length T → Consistent m T1 → Keeps m (k t) T1)
    → Consistent m T → (get_or T l 0 ≡ 0) ⊎ Right m T l → Keeps m (ask g l p k) T
step m g l p k T gf c h ih next w (inl z) = typed m g l p k T c h z ih next (fresh p).res refl
step m g l p k T gf c h ih next w (inr q) =
    answered m g l p k T gf c q (next q.type T (ap (λ (o : Out Ty). o.res) c ∙ q.typed) refl w)

pub keeps : (m : ℕ → Out Ty) (n : ℕ) {A : Type 0} (p : Rule A) (T : Table) → Coherent m n p → length T ≡ n → Consistent m T → Keeps m p T
unfolding kept fresh marks
keeps m n (ret a) T c h w = record { res = refl; table = refl; after = λ a e. (w, tt) }
keeps m n (refuse r) T c h w =
    record { res = refl; table = refl; after = λ a e. absurd (let z : ◌≡◌ {A = ℕ} 0 1 = cc e in omega arith) }
keeps m n (ask g l p k) T c h w =
    step m g l p k T c.0.2 c.0.0 (rw h c.0.1) (keeps m n p T c.1 h w) (λ t T1 a e v. keeps m n (k t) T1 (c.2 t a) (e ∙ h) v) w (w l)
