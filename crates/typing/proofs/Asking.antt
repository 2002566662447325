-- `ty_of`, `ty_again` and `typing`: what each return and each call needs. Assumes nothing.
use mathlib.Core.Logic.{◌≢◌}
use mathlib.Core.Path.{◌≡◌, refl, sym, ap, ◌∙◌}
use mathlib.Core.List.{List, []}
use mathlib.Core.Bool.{Bool, true, false, ◌||◌}
use Prim.Native.Nat.{ℕ, ◌+◌, ◌<◌, ◌≤◌}
use native.Mathlib.Numerals.{add-one}
use native.Mathlib.Omega.{arith}
use borrow.Author.Rules.{rules}
use Rattle.sheet.proofs.Tested.{tested}
use lib.Dec.{eqb}
use borrow.Author.Tests.{eqb-true, eqb-false}
use Rattle.text.proofs.Tests.{or_parts}
use lib.ListN.{length, get_or, set}
use Rattle.std.specs.Prelude.{Option, Some, None, Result, Ok, Err}
use Rattle.sheet.specs.Scratch.{kind_at, name_at}
use Rattle.rules.specs.Ast.{Wrap, line}
use Rattle.rules.specs.Asking.{ok, Rule}
use Rattle.rules.specs.declared.ty.Ty.{Ty}
use Rattle.rules.specs.Kept.{Table, kept, retyped, ty_of_mark}
use Rattle.rules.specs.Typing.{stale, asked, typing, ask_of, ty_of, ty_of_dot}
use Rattle.rules.specs.Standing.{expr_at, Loaded}
use Rattle.rules.proofs.AnyTable.{from_table, again, first_time}
use Rattle.rules.proofs.Binding.{kept-length}
use Rattle.rules.proofs.Exprs.{line_at, dot_at_lem, Wrapped, wrap_at}
use Rattle.rules.proofs.Standing.{loaded_sheet, row_first}
use Rattle.refusals.specs.declared.refusal.Refusal.{Refusal}
use Rattle.env.specs.Answers.{typed_of}
use Rattle.env.specs.Force.{env_of, InForce}
use Rattle.env.specs.declared.env.Env.{Env}
use Rattle.typing.specs.Asks.{answer_mark, Asks, AsksAgain, AsksAt, AsksLeaf, Types, TypesLeaf}
use Rattle.typing.proofs.Onward.{mark_code}
use Rattle.grammar.specs.Kinds as kinds
use Rattle.rules.specs.Codes as codes

-- a typing leaves as many marks as there were
pub types-length : (s : List ℕ) (p : Rule Ty) (T : Table) (a : Result Ty Refusal) (U : Table) → Types s p T a U → length U ≡ length T
types-length s p T a U k = sym (ap (λ o. length o.table) k.gives) ∙ kept-length p T

module _ (s S : List ℕ) (env : Env) (T : Table) (i : ℕ) (loaded : Loaded s S) (force : InForce S env) (h : Asks S T i) where
  pub asks_line : line (expr_at s i) ≡ i
  asks_line = line_at loaded h.here

  pub of_room : i < length T
  of_room = omega (arith, h.here.within, h.room)

  module _ (m : ℕ) (o : Option Ty) (e : m ≡ get_or T i 0) (t : o ≡ ty_of_mark m) where
    by_mark : ty_of_mark (get_or T i 0) ≡ o
    by_mark = rw (← e) (sym t)

    -- answered from the table
    pub of_known : (known : Ty) (q : Bool) → o ≡ Some known → q ≡ stale (env_of s [] env) (expr_at s i) → q ≡ false → Types s (ty_of (env_of s T env) (expr_at s i)) T (Ok known) T
    unfolding env_of typed_of stale
    of_known known q y x z = record { gives = from_table (env_of s T env) (expr_at s i) T _ (sym x ∙ z) (rw asks_line (by_mark ∙ y)) }

    pub of_again : (known : Ty) (q : Bool) → o ≡ Some known → q ≡ stale (env_of s [] env) (expr_at s i) → q ≡ true → AsksAgain s S env T i
    of_again known q y x z = record { asks = h; marked = (known, by_mark ∙ y); stale = sym x ∙ z }

    -- typed for the first time
    pub of_fresh : (a : Result Ty Refusal) (U : Table) (v : ℕ) → o ≡ None → Types s (typing (env_of s T env) (expr_at s i)) T a U → v ≡ answer_mark a
        → Types s (ty_of (env_of s T env) (expr_at s i)) T a (set U i v)
    of_fresh a U v y k q = record { gives = first_time (env_of s T env) (expr_at s i) T (rw asks_line (by_mark ∙ y)) ∙ rw (k.gives, asks_line, mark_code s a, q) refl }

  module _ (a : Result Ty Refusal) (U : Table) (k : Types s (typing (env_of s T env) (expr_at s i)) T a U) where
    pub fresh_room : i < length U
    fresh_room = omega (arith, of_room, types-length s _ T a U k)

-- typed again
module _ (s S : List ℕ) (env : Env) (T : Table) (i : ℕ) (loaded : Loaded s S) (force : InForce S env) (h : AsksAgain s S env T i) where
  at : line (expr_at s i) ≡ i
  at = asks_line s S env T i loaded force h.asks

  pub again_asks : Asks S T i
  again_asks = h.asks

  module _ (a : Result Ty Refusal) (U : Table) (k : Types s (typing (env_of s T env) (expr_at s i)) T a U) where
    pub again_room : i < length U
    again_room = fresh_room s S env T i loaded force h.asks a U k

    retype : kept (ty_of (env_of s T env) (expr_at s i)) T ≡ retyped i (typed_of s a) U (λ t W. record { res = ok t; table = W })
    unfolding env_of stale
    retype =
        again (env_of s T env) (expr_at s i) T h.marked.0 h.stale (rw at h.marked.1)
        ∙ rw (k.gives, at) refl

    pub again_ok : (c : Ty) → a ≡ Ok c → Types s (ty_of (env_of s T env) (expr_at s i)) T (Ok c) U
    unfolding retyped typed_of
    again_ok c e = record { gives = retype ∙ rw e refl }

    pub again_no : (r : Refusal) → a ≡ Err r → Types s (ty_of (env_of s T env) (expr_at s i)) T (Err r) (set U i codes.refused)
    unfolding retyped typed_of
    again_no r e = record { gives = retype ∙ rw e refl }

-- ------------------------------------------------------------ by the line's kind

module _ (s S : List ℕ) (env : Env) (T : Table) (i : ℕ) (loaded : Loaded s S) (force : InForce S env) (h : Asks S T i) where
  pub kind_is : (m : ℕ) → kind_at S i ≡ m → AsksAt m S T i
  kind_is m q = record { asks = h; kind = q }

  pub typed_dot : (x : List ℕ) (c : Ty) → kind_at S i ≡ kinds.dot → x ≡ name_at s S i → c ≡ ty_of_dot x → Types s (typing (env_of s T env) (expr_at s i)) T (Ok c) T
  unfolding typing typed_of kept
  typed_dot x c q n f =
      let d = dot_at_lem loaded h.here q in
      record { gives = rw (d.0, ← n, f) refl }

  -- a line of none of these kinds has no parts, or is a `checked` or `wrapping`
  pub kind_leaf : (t u : Bool) → kind_at S i ≢ kinds.un → kind_at S i ≢ kinds.bin → kind_at S i ≢ kinds.dot → kind_at S i ≢ kinds.call
      → t ≡ eqb (kind_at S i) kinds.checked → u ≡ eqb (kind_at S i) kinds.wrapping → (t || u) ≡ false → AsksLeaf S T i
  kind_leaf t u a b c f e g q = record { asks = h; kind = below (or_parts t u q).0 (or_parts t u q).1 }
    where
      below : t ≡ false → u ≡ false → kind_at S i < kinds.un
      below x y = omega (arith, a, b, c, f, eqb-false (kind_at S i) kinds.checked (sym e ∙ x), eqb-false (kind_at S i) kinds.wrapping (sym g ∙ y), h.here.kind.1)

  module _ (t u : Bool) (e : t ≡ eqb (kind_at S i) kinds.checked) (g : u ≡ eqb (kind_at S i) kinds.wrapping) (q : (t || u) ≡ true) where
    wrapping : kinds.checked ≤ kind_at S i
    wrapping = by_cases t u e g q
      where
        by_cases : (t u : Bool) → t ≡ eqb (kind_at S i) kinds.checked → u ≡ eqb (kind_at S i) kinds.wrapping → (t || u) ≡ true → kinds.checked ≤ kind_at S i
        by_cases true u e g q = omega (arith, eqb-true (kind_at S i) kinds.checked (sym e))
        by_cases false true e g q = omega (arith, eqb-true (kind_at S i) kinds.wrapping (sym g))
        by_cases false false e g q = absurd (let z : ◌≡◌ {A = ℕ} 0 1 = cc in omega arith)

    wraps : (w : Wrap) × Wrapped loaded h.here w
    wraps = wrap_at loaded h.here wrapping

    pub wrap_child : Asks S T (i + 1)
    wrap_child = record { room = h.room; here = rw (add-one i) (row_first wraps.1.1) }

    pub typed_wrap : (r : Result Ty Refusal) (U : Table) → Types s (ty_of (env_of s T env) (expr_at s (i + 1))) T r U → Types s (typing (env_of s T env) (expr_at s i)) T r U
    unfolding typing ty_of ask_of asked
    typed_wrap r U t = record { gives = rw (wraps.1.0, ← add-one i) t.gives }

pub typed_leaf : (s : List ℕ) (p : Rule Ty) (T : Table) (c : Ty) → TypesLeaf s p T c → Types s p T (Ok c) T
typed_leaf s p T c l = l.types

pub ruleset laws_of = (rules, loaded_sheet, types-length, of_room, of_known, of_again, of_fresh, fresh_room)

pub ruleset laws_again = (rules, loaded_sheet, types-length, again_asks, again_room, again_ok, again_no)

pub ruleset laws_kind = (tested, loaded_sheet, types-length, kind_leaf, kind_is, typed_dot, wrap_child, typed_wrap, typed_leaf)
