-- How a rule is written: it gives a value, refuses, or asks a line's type and goes on with the answer.
-- `fresh` is what a rule means: its result, and its askings in the order in which they end.
use Rattle.std.specs.Prelude.{ℕ, zero, suc, List, [], ◌∷◌, ◌++◌, Bool, true, false, ◌&&◌, ◌||◌, cond, eqb, Option, Some, None}
use Rattle.rules.specs.Text.{Piece}
use Rattle.rules.specs.Codes as codes
use Rattle.rules.specs.declared.ty.Ty.{Ty}
use Rattle.rules.specs.declared.ty.Ty.TheVariants.{Int, Bool as Boolean, Address, Asset, Word64, Name as TName, Time, Str, Collection, Unknown}

unfoldable pub code : Ty → ℕ
code Int = codes.int
code Boolean = codes.boolean
code Address = codes.address
code Asset = codes.asset
code Word64 = codes.word64
code TName = codes.name
code Time = codes.time
code Str = codes.str
code Collection = codes.collection
code Unknown = codes.unknown

pub record Refusal : Type 0 where
  pub number : ℕ
  pub place : ℕ
  pub text : List Piece

pub data Res (A : Type 0) : Type 0 where
  ok : A → Res A
  refused : Refusal → Res A

-- `ask again l p k`: the type of line l is asked, which is typed by p; then k of the answer. `again`: a bound `let`,
-- from the line's own statement or clause on, has a name that the line mentions, so a kept type is not the answer.
pub data Rule : Type 0 → Type 1 where
  ret : {A : Type 0} → A → Rule A
  refuse : {A : Type 0} → Refusal → Rule A
  ask : {A : Type 0} → Bool → ℕ → Rule Ty → (Ty → Rule A) → Rule A

infixl 20 ◌>>=◌
unfoldable pub ◌>>=◌ : {A B : Type 0} → Rule A → (A → Rule B) → Rule B
◌>>=◌ (ret a) f = f a
◌>>=◌ (refuse r) f = refuse r
◌>>=◌ (ask g l p k) f = ask g l p (λ t. k t >>= f)

infixl 20 ◌>>◌
unfoldable pub ◌>>◌ : {A B : Type 0} → Rule A → Rule B → Rule B
◌>>◌ m n = m >>= (λ _. n)

-- refuses unless the test holds
unfoldable pub expect : Bool → (number place : ℕ) → List Piece → Rule Unit
expect true n at ps = ret tt
expect false n at ps = refuse (record { number = n; place = at; text = ps })

-- the rule where the test holds
unfoldable pub provided : Bool → Rule Unit → Rule Unit
provided true p = p
provided false p = ret tt

-- `if let Some(a) = o`
unfoldable pub if_some : {A : Type 0} → Option A → (A → Rule Unit) → Rule Unit
if_some None f = ret tt
if_some (Some a) f = f a

-- `if let Some(a) = o`, with an `else`
unfoldable pub if_some_else : {A : Type 0} → Option A → (A → Rule Unit) → Rule Unit → Rule Unit
if_some_else None f p = p
if_some_else (Some a) f p = f a

-- `for a in list`
unfoldable pub for_each : {A : Type 0} → List A → (A → Rule Unit) → Rule Unit
for_each [] f = ret tt
for_each (a ∷ as') f = f a >>= (λ _. for_each as' f)

abbrev pub Asking : Type 0
Asking = ℕ × ℕ

-- a line that has an asking is reached; its code is 0 if it has none, `codes.refused` if any of its askings has it, else that of its
-- first
unfoldable pub reached : ℕ → List Asking → Bool
reached l [] = false
reached l (a ∷ rest) = eqb a.0 l || reached l rest

-- how many of the n lines from line i on are reached
unfoldable pub reached_from : (i n : ℕ) → List Asking → ℕ
reached_from i zero asked = 0
reached_from i (suc n) asked = elim (reached i asked) [ true ↦ suc (reached_from (suc i) n asked) | false ↦ reached_from (suc i) n asked ]

unfoldable pub refused_in : ℕ → List Asking → Bool
refused_in l [] = false
refused_in l (a ∷ rest) = (eqb a.0 l && eqb a.1 codes.refused) || refused_in l rest

unfoldable pub first_code : ℕ → List Asking → ℕ
first_code l [] = 0
first_code l (a ∷ rest) = cond (eqb a.0 l) a.1 (first_code l rest)

unfoldable pub code_of : ℕ → List Asking → ℕ
code_of l asked = cond (refused_in l asked) codes.refused (first_code l asked)

pub record Out (A : Type 0) : Type 0 where
  pub res : Res A
  pub log : List Asking

unfoldable pub code_r : Res Ty → ℕ
code_r (ok t) = code t
code_r (refused r) = codes.refused

-- the asking of line l that came out so has ended: go on, or end in its refusal
unfoldable pub concluded : {A : Type 0} → ℕ → Res Ty → List Asking → (Ty → Out A) → Out A
concluded l (ok t) asked f =
    let o = f t in
    record { res = o.res; log = asked ++ ((l, code t) ∷ o.log) }
concluded l (refused r) asked f = record { res = refused r; log = asked ++ ((l, codes.refused) ∷ []) }

unfoldable pub fresh : {A : Type 0} → Rule A → Out A
fresh (ret a) = record { res = ok a; log = [] }
fresh (refuse r) = record { res = refused r; log = [] }
fresh (ask g l p k) =
    let o = fresh p in
    concluded l o.res o.log (λ t. fresh (k t))
