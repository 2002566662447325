-- Types of state fields. Assumes nothing.
use mathlib.Core.Path.{◌≡◌, refl, sym, ap, ◌∙◌}
use mathlib.Core.Logic.{◌≢◌, ◌⊎◌, inl, inr}
use mathlib.Core.List.{List, [], ◌∷◌}
use mathlib.Core.Bool.{Bool, true, false, not, ◌&&◌, ◌||◌}
use Prim.Native.Nat.{ℕ, suc, ◌+◌}
use native.Mathlib.Numerals.{add-one}
use native.Mathlib.Omega.{arith}
use lib.Dec.{eqb}
use lib.ListN.{length}
use borrow.Author.Tests.{eq-eqb, ne_eqb}
use Rattle.std.specs.Prelude.{Option, Some, None, Result, Ok, Err}
use Rattle.text.specs.Text.{bytes, same}
use Rattle.grammar.specs.Grammar as grammar
use Rattle.sheet.specs.Scratch.{name_at, kind_at, type_arg_count}
use Rattle.sheet.specs.Records.{Steps}
use Rattle.sheet.specs.declared.records.Records.{Records}
use Rattle.rules.specs.Text.{Name, is}
use Rattle.rules.specs.Ast.{args, type_name}
use Rattle.rules.specs.Asking.{code, Res}
use Rattle.rules.specs.declared.ty.Ty.{Ty}
use Rattle.rules.specs.declared.ty.Ty.TheVariants.{Int, Bool as Boolean, Address, Asset, Word64, Name as TName, Time, Str, Collection, Unknown}
use Rattle.rules.specs.Types.{ty_of_decl, eq_ty, is_ty}
use Rattle.rules.specs.Declarations.{inner_fits, storable_arg, storable_args, storable_keyed, known, arity_of, storable_as, storable}
use Rattle.rules.specs.Standing.{type_at, arg_at, Loaded, Here}
use Rattle.rules.proofs.Rows.{row_over, IterWalk, iter_start, iter_here, iter_found, iter_onward}
use Rattle.refusals.specs.Answers.{Answers, expected}
use Rattle.refusals.specs.Refusal.{arity, refusal_of, done_of}
use Rattle.refusals.specs.declared.refusal.Refusal.{Refusal}
use Rattle.refusals.specs.declared.refusal.Refusal.TheVariants.{NameStored, Arity, OnlyTypes, InnerType}
use Rattle.refusals.proofs.Answers.{gives, misfits, expects, passes, refuses, then_fine, then_refused}
use Rattle.lookups.proofs.Types.{type_name_lem, named_word, args_at, arguments, by_kind, arg_of_kind, arg_told, args_here, args_row, args_count, arg_type}
use Rattle.grammar.specs.Kinds as kinds

-- ------------------------------------------------------------ keys and values

-- What `inner_fits` meets: the type t at line j, in the one at line i.
module _ (s : List ℕ) (i j : ℕ) (key : Bool) (t : Ty) (e : t ≡ ty_of_decl (type_at s j)) where
  abbrev fits_by : Ty → Bool
  fits_by t =
      elim (eq_ty t TName) [
        | true ↦ key || is (type_name (type_at s i)) "Map"
        | false ↦ not (is_ty t (Unknown ∷ Asset ∷ Str ∷ Collection ∷ [])) && eqb (length (args (type_at s j))) 0
      ]

  by_type : (u : Ty) → t ≡ u → fits_by u ≡ inner_fits (type_name (type_at s i)) key (type_at s j)
  unfolding inner_fits
  by_type u f = ap fits_by (sym f ∙ e)

  pub inner_name : (S : List ℕ) (x : Name) (w : Bool) → Loaded s S → t ≡ TName → x ≡ name_at s S i → w ≡ same x (bytes "Map") → (key || w) ≡ inner_fits (type_name (type_at s i)) key (type_at s j)
  unfolding eq_ty code
  inner_name S x w d f y z = ap (λ w. key || w) (named_word s S i x "Map" w d y z) ∙ by_type TName f

  pub inner_refused : ((t ≡ Unknown) ⊎ ((t ≡ Asset) ⊎ ((t ≡ Str) ⊎ (t ≡ Collection)))) → false ≡ inner_fits (type_name (type_at s i)) key (type_at s j)
  unfolding is_ty eq_ty code
  inner_refused (inl f) = by_type Unknown f
  inner_refused (inr (inl f)) = by_type Asset f
  inner_refused (inr (inr (inl f))) = by_type Str f
  inner_refused (inr (inr (inr f))) = by_type Collection f

  pub inner_other : (S : List ℕ) (m : ℕ) → Loaded s S → Here S grammar.Ty j → t ≢ TName → t ≢ Unknown → t ≢ Asset → t ≢ Str → t ≢ Collection → m ≡ type_arg_count S j → eqb m 0 ≡ inner_fits (type_name (type_at s i)) key (type_at s j)
  unfolding is_ty eq_ty code
  inner_other S m k h a b c d f n = by_cases t a b c d f ∙ by_type t refl
    where
      no_args : eqb m 0 ≡ eqb (length (args (type_at s j))) 0
      no_args = ap (λ n. eqb n 0) (sym (args_count s S j m k h n))

      by_cases : (t : Ty) → t ≢ TName → t ≢ Unknown → t ≢ Asset → t ≢ Str → t ≢ Collection → eqb m 0 ≡ fits_by t
      by_cases Int a b c d f = no_args
      by_cases Boolean a b c d f = no_args
      by_cases Address a b c d f = no_args
      by_cases Asset a b c d f = absurd (c refl)
      by_cases Word64 a b c d f = no_args
      by_cases TName a b c d f = absurd (a refl)
      by_cases Time a b c d f = no_args
      by_cases Str a b c d f = absurd (d refl)
      by_cases Collection a b c d f = absurd (f refl)
      by_cases Unknown a b c d f = absurd (b refl)

-- What `storable_arg` meets: an argument at line j.
pub arg_typed : (S : List ℕ) (j : ℕ) → Here S grammar.Arg j → kind_at S j ≡ kinds.type → Here S grammar.Ty j
arg_typed S j a = arg_type S j (kind_at S j) a refl

module _ (s S : List ℕ) (i j : ℕ) (key : Bool) (d : Loaded s S) where
  pub arg_other : Here S grammar.Arg j → kind_at S j ≢ kinds.type → Answers (storable_arg (type_at s i) key (arg_at s j)) (done_of s (Err (OnlyTypes i)))
  unfolding storable_arg done_of refusal_of
  arg_other a e =
      rw (arg_told s S j (kind_at S j) d refl)
      (by_kind (λ k. k ≢ kinds.type → Answers (storable_arg (type_at s i) key (arg_of_kind s S j k)) (done_of s (Err (OnlyTypes i)))) (kind_at S j) a refl
      (λ e. absurd (e refl)) (λ e. misfits false 14 _ _ refl) (λ e. misfits false 14 _ _ refl) e)

  pub arg_judged : (b : Bool) (r : Result Unit Refusal) → kind_at S j ≡ kinds.type → b ≡ inner_fits (type_name (type_at s i)) key (type_at s j) → r ≡ expected b (InnerType i j key)
      → Answers (storable_arg (type_at s i) key (arg_at s j)) (done_of s r)
  unfolding storable_arg refusal_of
  arg_judged b r e q g = rw (arg_told s S j (kind_at S j) d refl, e, ← q) (expects s b (InnerType i j key) r g)

-- ------------------------------------------------------------ all arguments

-- `storable_args` of the arguments that are left, where the next one is a key or not
abbrev pub Judging : (s S : List ℕ) (i : ℕ) (is_key : Bool) → Records → Type 0
Judging s S i is_key r =
    IterWalk grammar.Arg args_at (λ as'. (d : Res Unit) → Answers (storable_args (type_at s i) is_key as') d → Answers (storable_args (type_at s i) true (args (type_at s i))) d) s S r

pub args_start : (s S : List ℕ) (i n : ℕ) (r : Records) → Loaded s S → Here S grammar.Ty i → n ≡ type_arg_count S i → r.lines.now ≡ S → r.left ≡ n → r.at ≡ i + 1 → Judging s S i true r
args_start s S i n r d h c e p q =
    iter_start _ _ _ s S n (suc i) r
    (record { loaded = d; row = args_row s S i n d h c; known = rw (args_here s S i n d h c) (λ k a. a) }) e p (q ∙ add-one i)

module _ (s S : List ℕ) (i : ℕ) (is_key : Bool) (r : Records) (w : Judging s S i is_key r) where
  pub args_over : r.left ≡ 0 → Answers (storable_args (type_at s i) true (args (type_at s i))) (done_of s (Ok tt))
  unfolding storable_args done_of
  args_over e = row_over arguments w.walk (omega (arith, e)) _ (gives tt)

  module _ (j : ℕ) (t : Records) (h : Steps r j t) where
    pub arg_here : Here S grammar.Arg j
    arg_here = iter_here h w

    module _ (d : Result Unit Refusal) (f : Answers (storable_arg (type_at s i) is_key (arg_at s j)) (done_of s d)) where
      pub arg_refused : (why : Refusal) → d ≡ Err why → Answers (storable_args (type_at s i) true (args (type_at s i))) (done_of s (Err why))
      unfolding storable_args done_of
      arg_refused why q = iter_found h arguments w (λ as' z. z _ (then_refused _ _ (refusal_of s why) (rw q at f)))

      pub arg_next : d ≡ Ok tt → Judging s S i false t
      unfolding storable_args done_of
      arg_next q = iter_onward h arguments w (λ as' z x a. z x (then_fine _ _ tt x (rw q at f) a))

-- ------------------------------------------------------------ the type

-- What `storable_keyed` meets: a Map or Registry with m arguments that takes n.
module _ (s S : List ℕ) (i n m : ℕ) (d : Loaded s S) (h : Here S grammar.Ty i) (a : arity_of (type_name (type_at s i)) ≡ Some n) (c : m ≡ type_arg_count S i) where
  said : arity (type_name (type_at s i)) ≡ n
  unfolding arity
  said = rw (arity, a) refl

  pub keyed_refused : m ≢ n → Answers (storable_keyed (type_at s i) n) (done_of s (Err (Arity i)))
  unfolding storable_keyed done_of refusal_of
  keyed_refused e = rw said (refuses _ 13 _ _ _ (rw (args_count s S i m d h c, ne_eqb m n e) refl))

  pub keyed_args : (r : Result Unit Refusal) → m ≡ n → Answers (storable_args (type_at s i) true (args (type_at s i))) (done_of s r) → Answers (storable_keyed (type_at s i) n) (done_of s r)
  unfolding storable_keyed
  keyed_args r e f = passes _ 13 _ _ _ _ (rw (args_count s S i m d h c, eq-eqb m n e) refl) f

-- What `storable` meets: whether the type's name is Q_Name, and how many arguments it takes.
module _ (s S : List ℕ) (i : ℕ) (x : Name) (w : Bool) (d : Loaded s S) (e : x ≡ name_at s S i) (f : w ≡ same x (bytes "Q_Name")) where
  no_name : (b : Bool) → w ≡ b → not (is (type_name (type_at s i)) "Q_Name") ≡ not b
  no_name b g = rw (← named_word s S i x "Q_Name" w d e f, g) refl

  pub storable-name : w ≡ true → Answers (storable (type_at s i)) (done_of s (Err (NameStored i)))
  unfolding storable done_of refusal_of
  storable-name g = refuses _ 12 _ _ _ (no_name true g)

  module _ (o : Option ℕ) (g : w ≡ false) (a : o ≡ arity_of x) where
    its_arity : o ≡ arity_of (type_name (type_at s i))
    its_arity = rw (← type_name_lem s S i d, ← e) a

    pub storable-known : (r : Result Unit Refusal) → o ≡ None → Answers (known (type_at s i)) (done_of s r) → Answers (storable (type_at s i)) (done_of s r)
    unfolding storable storable_as
    storable-known r z q = passes _ 12 _ _ _ _ (no_name false g) (rw (← its_arity, z) q)

    module _ (n : ℕ) (z : o ≡ Some n) where
      pub storable-arity : arity_of (type_name (type_at s i)) ≡ Some n
      storable-arity = sym its_arity ∙ z

      pub storable_args_lem : (r : Result Unit Refusal) → Answers (storable_keyed (type_at s i) n) (done_of s r) → Answers (storable (type_at s i)) (done_of s r)
      unfolding storable storable_as
      storable_args_lem r q = passes _ 12 _ _ _ _ (no_name false g) (rw storable-arity q)
