-- Rules one behind another with kept types, and what their table keeps. Assumes nothing.
use mathlib.Core.Logic.{◌≢◌}
use mathlib.Core.Path.{◌≡◌, refl, sym, ap, ◌∙◌}
use mathlib.Core.List.{List, [], ◌∷◌, ◌++◌}
use mathlib.Core.Bool.{Bool, true, false}
use Prim.Native.Nat.{ℕ}
use native.Mathlib.Omega.{arith}
use lib.ListN.{length, get_or, set, length-set}
use lib.Seq.{get_or-set_other}
use Rattle.std.specs.Prelude.{Option, Some, None}
use Rattle.rules.specs.Asking.{Res, ok, refused, Refusal, code_r, Rule, ret, refuse, ask, ◌>>=◌, for_each}
use Rattle.rules.specs.declared.ty.Ty.{Ty}
use Rattle.rules.specs.Kept.{Table, ty_of_mark, Kept, stored, retyped, kept}
use Rattle.rules.proofs.Keeps.{Throughout, OfLine, Any}
use Rattle.rules.specs.Codes as codes

-- one asking, by what the table has for its line
abbrev asking : {A : Type 0} → Option Ty → Bool → ℕ → Kept Ty → Table → (Ty → Table → Kept A) → Kept A
asking None b l o T f = stored o.res (set o.table l (code_r o.res)) f
asking (Some t) false l o T f = f t T
asking (Some t) true l o T f = retyped l o.res o.table f

kept_ask : {A : Type 0} (g : Bool) (l : ℕ) (p : Rule Ty) (k : Ty → Rule A) (T : Table)
    → kept (ask g l p k) T ≡ asking (ty_of_mark (get_or T l 0)) g l (kept p T) T (λ t U. kept (k t) U)
unfolding kept
kept_ask {A} g l p k T = by_cases (ty_of_mark (get_or T l 0)) g
  where
    f : Ty → Table → Kept A
    f t U = kept (k t) U

    by_cases : (m : Option Ty) (b : Bool)
        → ◌≡◌ {A = Kept A}
        (elim m [ None ↦ stored (kept p T).res (set (kept p T).table l (code_r (kept p T).res)) f | Some t ↦ elim b [ false ↦ f t T | true ↦ retyped l (kept p T).res (kept p T).table f ] ])
        (asking m b l (kept p T) T f)
    by_cases None b = refl
    by_cases (Some t) false = refl
    by_cases (Some t) true = refl

-- ------------------------------------------------------------ one rule behind another

-- go on with the answer and the table, unless it was refused
unfoldable pub and_then : {A B : Type 0} → Kept A → (A → Table → Kept B) → Kept B
and_then o f = elim o.res [ ok a ↦ f a o.table | refused r ↦ record { res = refused r; table = o.table } ]

module _ {A B : Type 0} (f' : Ty → Table → Kept B) (f : Ty → Table → Kept A) (g : A → Table → Kept B) (e : (t : Ty) (T : Table) → f' t T ≡ and_then (f t T) g) where
  stored_then : (r : Res Ty) (T : Table) → stored r T f' ≡ and_then (stored r T f) g
  unfolding stored and_then
  stored_then (ok t) T = e t T
  stored_then (refused r) T = refl

  retyped_then : (l : ℕ) (r : Res Ty) (T : Table) → retyped l r T f' ≡ and_then (retyped l r T f) g
  unfolding retyped and_then
  retyped_then l (ok t) T = e t T
  retyped_then l (refused r) T = refl

  asked_then : (m : Option Ty) (b : Bool) (l : ℕ) (o : Kept Ty) (T : Table) → asking m b l o T f' ≡ and_then (asking m b l o T f) g
  asked_then None b l o T = stored_then o.res (set o.table l (code_r o.res))
  asked_then (Some t) false l o T = e t T
  asked_then (Some t) true l o T = retyped_then l o.res o.table

pub kept_bind : {A B : Type 0} (p : Rule A) (f : A → Rule B) (T : Table) → kept (p >>= f) T ≡ and_then (kept p T) (λ a U. kept (f a) U)
unfolding kept ◌>>=◌ and_then
kept_bind (ret a) f T = refl
kept_bind (refuse r) f T = refl
kept_bind (ask g l p k) f T =
    kept_ask g l p (λ t. k t >>= f) T
    ∙ asked_then (λ t U. kept (k t >>= f) U) (λ t U. kept (k t) U) (λ a U. kept (f a) U) (λ t U. kept_bind (k t) f U) (ty_of_mark (get_or T l 0)) g l (kept p T) T
    ∙ ap (λ o. and_then o (λ a U. kept (f a) U)) (sym (kept_ask g l p k T))

-- ... whose outcome is known
pub then_ok : {A B : Type 0} (p : Rule A) (f : A → Rule B) (T U : Table) (a : A) (o : Kept B) → kept p T ≡ record { res = ok a; table = U } → kept (f a) U ≡ o → kept (p >>= f) T ≡ o
unfolding and_then
then_ok p f T U a o e q = kept_bind p f T ∙ ap (λ x. and_then x (λ y S. kept (f y) S)) e ∙ q

pub then_refused : {A B : Type 0} (p : Rule A) (f : A → Rule B) (T U : Table) (r : Refusal) → kept p T ≡ record { res = refused r; table = U } → kept (p >>= f) T ≡ record { res = refused r; table = U }
unfolding and_then
then_refused p f T U r e = kept_bind p f T ∙ ap (λ x. and_then x (λ y S. kept (f y) S)) e

-- ------------------------------------------------------------ grouped and replaced

-- how rules are grouped does not matter
module _ {A B C : Type 0} (f : A → Rule B) (g : B → Rule C) where
  regroup : (o : Kept A) → and_then (and_then o (λ a T. kept (f a) T)) (λ b T. kept (g b) T) ≡ and_then o (λ a T. kept (f a >>= g) T)
  unfolding and_then
  regroup o = by_cases o.res o.table
    where
      by_cases : (r : Res A) (T : Table)
          → and_then (and_then (record { res = r; table = T }) (λ a T. kept (f a) T)) (λ b T. kept (g b) T) ≡ and_then (record { res = r; table = T }) (λ a T. kept (f a >>= g) T)
      by_cases (ok a) T = sym (kept_bind (f a) g T)
      by_cases (refused x) T = refl

  pub kept_assoc : (p : Rule A) (T : Table) → kept ((p >>= f) >>= g) T ≡ kept (p >>= λ a. f a >>= g) T
  kept_assoc p T =
      kept_bind (p >>= f) g T
      ∙ ap (λ o. and_then o (λ b T. kept (g b) T)) (kept_bind p f T)
      ∙ regroup (kept p T)
      ∙ sym (kept_bind p (λ a. f a >>= g) T)

-- what comes behind a rule may be replaced by what does the same
pub kept_behind : {A B : Type 0} (p : Rule A) (f g : A → Rule B) (T : Table) → ((a : A) (U : Table) → kept (f a) U ≡ kept (g a) U) → kept (p >>= f) T ≡ kept (p >>= g) T
unfolding and_then
kept_behind {A} {B} p f g T h = kept_bind p f T ∙ by_cases (kept p T).res (kept p T).table ∙ sym (kept_bind p g T)
  where
    by_cases : (r : Res A) (U : Table) → and_then (record { res = r; table = U }) (λ a W. kept (f a) W) ≡ and_then (record { res = r; table = U }) (λ a W. kept (g a) W)
    by_cases (ok a) U = h a U
    by_cases (refused x) U = refl

-- nothing behind a rule
pub kept_unit : (p : Rule Unit) (T : Table) → kept (p >>= λ _. ret tt) T ≡ kept p T
unfolding and_then kept
kept_unit p T = kept_bind p (λ _. ret tt) T ∙ by_cases (kept p T).res (kept p T).table
  where
    by_cases : (r : Res Unit) (U : Table) → and_then (record { res = r; table = U }) (λ _ W. kept (ret tt) W) ≡ record { res = r; table = U }
    by_cases (ok u) U = refl
    by_cases (refused x) U = refl

-- where two rules end in a refusal, so do they before others
pub refused_behind : {A B C : Type 0} (p : Rule A) (f : A → Rule B) (g : A → Rule C) (T U : Table) (r : Refusal) → kept (p >>= f) T ≡ record { res = refused r; table = U }
    → kept (p >>= λ a. f a >>= λ _. g a) T ≡ record { res = refused r; table = U }
unfolding and_then
refused_behind {A} {B} {C} p f g T U r e = kept_bind p (λ a. f a >>= λ _. g a) T ∙ by_cases (kept p T).res (kept p T).table (sym (kept_bind p f T) ∙ e)
  where
    by_cases : (o : Res A) (W : Table) → and_then (record { res = o; table = W }) (λ a X. kept (f a) X) ≡ record { res = refused r; table = U }
        → and_then (record { res = o; table = W }) (λ a X. kept (f a >>= λ _. g a) X) ≡ record { res = refused r; table = U }
    by_cases (ok a) W q = then_refused (f a) (λ _. g a) W U r q
    by_cases (refused x) W q =
        let y : ◌≡◌ {A = Res B} (refused x) (refused r) = ap (λ o. o.res) q in
        let z : x ≡ r = cc in
        let w : W ≡ U = ap (λ o. o.table) q in
        rw (z, w) refl

-- lists of rules, one behind another
pub each_append : {A : Type 0} (f : A → Rule Unit) (as' bs : List A) (T : Table) → kept (for_each (as' ++ bs) f) T ≡ kept (for_each as' f >>= λ _. for_each bs f) T
unfolding for_each ◌>>=◌
each_append f [] bs T = refl
each_append f (a ∷ as') bs T =
    kept_behind (f a) (λ _. for_each (as' ++ bs) f) (λ _. for_each as' f >>= λ _. for_each bs f) T (λ _ U. each_append f as' bs U)
    ∙ sym (kept_assoc (λ _. for_each as' f) (λ _. for_each bs f) (f a) T)

-- ------------------------------------------------------------ what the table keeps

-- the table keeps its length
module _ {A : Type 0} (f : Ty → Table → Kept A) (n l : ℕ) (h : (t : Ty) (T : Table) → length T ≡ n → length (f t T).table ≡ n) where
  asking_length : (m : Option Ty) (b : Bool) (r : Res Ty) (U T : Table) → length T ≡ n → length U ≡ n → length (asking m b l (record { res = r; table = U }) T f).table ≡ n
  unfolding stored retyped code_r
  asking_length None b (ok t) U T e q = h t _ (length-set U l _ ∙ q)
  asking_length None b (refused r) U T e q = length-set U l codes.refused ∙ q
  asking_length (Some t) false r U T e q = h t T e
  asking_length (Some t) true (ok u) U T e q = h u U q
  asking_length (Some t) true (refused r) U T e q = length-set U l codes.refused ∙ q

pub kept-length : {A : Type 0} (p : Rule A) (T : Table) → length (kept p T).table ≡ length T
unfolding kept
kept-length (ret a) T = refl
kept-length (refuse r) T = refl
kept-length (ask g l p k) T =
    ap (λ o. length o.table) (kept_ask g l p k T)
    ∙ asking_length (λ t U. kept (k t) U) (length T) l (λ t U e. kept-length (k t) U ∙ e) (ty_of_mark (get_or T l 0)) g (kept p T).res (kept p T).table T refl (kept-length p T)

-- a line that has a type keeps it, unless a refusal ends all
module _ {A : Type 0} (f : Ty → Table → Kept A) (a : A) (l i c : ℕ) (h : (t : Ty) (T : Table) → (f t T).res ≡ ok a → get_or T i 0 ≡ c → get_or (f t T).table i 0 ≡ c) where
  asking_holds : (m : Option Ty) (b : Bool) (r : Res Ty) (U T : Table) → (m ≡ None → i ≢ l) → get_or T i 0 ≡ c → ((t : Ty) → r ≡ ok t → get_or U i 0 ≡ c)
      → (asking m b l (record { res = r; table = U }) T f).res ≡ ok a → get_or (asking m b l (record { res = r; table = U }) T f).table i 0 ≡ c
  unfolding stored retyped code_r
  asking_holds None b (ok t) U T d e q w = h t _ w (get_or-set_other U l i _ 0 (d refl) ∙ q t refl)
  asking_holds None b (refused r) U T d e q w = absurd (let z : ◌≡◌ {A = ℕ} 0 1 = cc in omega arith)
  asking_holds (Some t) false r U T d e q w = h t T w e
  asking_holds (Some t) true (ok u) U T d e q w = h u U w (q u refl)
  asking_holds (Some t) true (refused r) U T d e q w = absurd (let z : ◌≡◌ {A = ℕ} 0 1 = cc in omega arith)

pub kept_holds : {A : Type 0} (p : Rule A) (T : Table) (a : A) (i : ℕ) (t : Ty) → ty_of_mark (get_or T i 0) ≡ Some t → (kept p T).res ≡ ok a → get_or (kept p T).table i 0 ≡ get_or T i 0
unfolding kept
kept_holds (ret b) T a i t h e = refl
kept_holds (refuse r) T a i t h e = refl
kept_holds (ask g l p k) T a i t h e =
    let q = kept_ask g l p k T in
    ap (λ o. get_or o.table i 0) q
    ∙ asking_holds (λ u U. kept (k u) U) a l i (get_or T i 0) (λ u U w z. kept_holds (k u) U a i t (ap ty_of_mark z ∙ h) w ∙ z)
    (ty_of_mark (get_or T l 0)) g (kept p T).res (kept p T).table T
    (λ n z. absurd (let y : None ≡ Some t = sym n ∙ ap (λ j. ty_of_mark (get_or T j 0)) (sym z) ∙ h in (let x : ◌≡◌ {A = ℕ} 0 1 = cc in omega arith)))
    refl (λ u w. kept_holds p T u i t h w) (sym (ap (λ o. o.res) q) ∙ e)

-- a line that is asked nowhere keeps what it holds
abbrev pub Off : ℕ → {A : Type 0} → Rule A → Type 0
Off i = Throughout (OfLine (λ l. i ≢ l)) Any

module _ {A : Type 0} (f : Ty → Table → Kept A) (l i c : ℕ) (d : i ≢ l) (h : (t : Ty) (T : Table) → get_or T i 0 ≡ c → get_or (f t T).table i 0 ≡ c) where
  asking_off : (m : Option Ty) (b : Bool) (r : Res Ty) (U T : Table) → get_or T i 0 ≡ c → get_or U i 0 ≡ c → get_or (asking m b l (record { res = r; table = U }) T f).table i 0 ≡ c
  unfolding stored retyped code_r
  asking_off None b (ok t) U T e q = h t _ (get_or-set_other U l i _ 0 d ∙ q)
  asking_off None b (refused r) U T e q = get_or-set_other U l i codes.refused 0 d ∙ q
  asking_off (Some t) false r U T e q = h t T e
  asking_off (Some t) true (ok u) U T e q = h u U q
  asking_off (Some t) true (refused r) U T e q = get_or-set_other U l i codes.refused 0 d ∙ q

pub kept_off : {A : Type 0} (p : Rule A) (T : Table) (i : ℕ) → Off i p → get_or (kept p T).table i 0 ≡ get_or T i 0
unfolding kept
kept_off (ret a) T i o = refl
kept_off (refuse r) T i o = refl
kept_off (ask g l p k) T i o =
    ap (λ q. get_or q.table i 0) (kept_ask g l p k T)
    ∙ asking_off (λ u U. kept (k u) U) l i (get_or T i 0) o.0 (λ u U e. kept_off (k u) U i (o.2 u tt) ∙ e)
    (ty_of_mark (get_or T l 0)) g (kept p T).res (kept p T).table T refl (kept_off p T i o.1)
