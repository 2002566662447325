-- What stays when typing has gone on: the locals' types, and so what is in force. No asking inside an expression is of a `let`'s
-- value, so none changes what the table has for one. Assumes nothing.
use mathlib.Core.Logic.{◌≢◌}
use mathlib.Core.Path.{◌≡◌, refl, sym, ap, ◌∙◌}
use mathlib.Core.List.{List, [], ◌∷◌, map}
use mathlib.Core.Bool.{Bool, true, false}
use Prim.Native.Nat.{ℕ, suc, ◌<◌, ◌≤◌}
use native.Mathlib.Omega.{arith}
use lib.Dec.{leb}
use lib.ListN.{length, get_or}
use borrow.Author.Tests.{leb-true, leb-false}
use Rattle.std.specs.Prelude.{Result, Ok, Err}
use Rattle.grammar.specs.Grammar as grammar
use Rattle.sheet.specs.Scratch.{kind_at, end_at, line_count}
use Rattle.sheet.specs.Tree.{Node, node, take_nodes}
use Rattle.rules.specs.Ast.{exprs_of}
use Rattle.rules.specs.Asking.{code_r, ok, Rule, ret, ◌>>=◌, ◌>>◌, expect}
use Rattle.rules.specs.declared.ty.Ty.{Ty}
use Rattle.rules.specs.Kept.{Table, kept}
use Rattle.rules.specs.Text.{Name, Piece}
use Rattle.rules.specs.Typing as rules
use Rattle.rules.specs.Typing.{ask_each, ty_of, typings}
use Rattle.rules.specs.Standing.{expr_at, exprs_at, Loaded, Here, Row, stop, next}
use Rattle.rules.proofs.All.{All}
use Rattle.rules.proofs.Binding.{kept-length, Off, kept_off}
use Rattle.rules.proofs.Coherence.{Fits, FitsAll, c_ret, c_bind, c_then, c_expect, c_ty_of, c_typings, c_each, c_provided, c_amount}
use Rattle.rules.proofs.Forest.{here_inside, placed_at}
use Rattle.rules.proofs.Keeps.{Throughout, OfLine, Any, throughout_map}
use Rattle.rules.proofs.Lines.{fits_lines}
use Rattle.rules.proofs.Standing.{stands, exprs_next}
use Rattle.env.proofs.Lets.{lets_all}
use Rattle.env.specs.Answers.{typed_of}
use Rattle.env.specs.Force.{env_of, local_of, lets, InForce}
use Rattle.env.specs.declared.env.Env.{Env}
use Rattle.typing.specs.Asks.{amount_rule, NoValue, answer_mark}
use Rattle.grammar.specs.Kinds as kinds
use Rattle.refusals.specs.declared.refusal.Refusal.{Refusal}

-- the mark of an answer is its code
pub mark_code : (s : List ℕ) (a : Result Ty Refusal) → code_r (typed_of s a) ≡ answer_mark a
unfolding code_r typed_of answer_mark
mark_code s (Ok t) = refl
mark_code s (Err r) = refl

-- ------------------------------------------------------------ lines that are no `let`'s value

-- the first part of what is no `let`
pub no_value_below : (S : List ℕ) (i : ℕ) → kind_at S i ≢ kinds.let' → NoValue S (suc i)
no_value_below S i n = record { before = λ j e k. n (ap (kind_at S) (let q : i ≡ j = omega arith in q) ∙ k) }

module _ {s S : List ℕ} (d : Loaded s S) {i : ℕ} (h : Here S grammar.Expr i) where
  -- the lines behind that of an expression, up to the one behind its parts
  behind : (l : ℕ) → i < l → l ≤ end_at S i → NoValue S l
  behind l a b = record { before = λ j e k. let q = here_inside d j h (omega arith) (omega arith) in omega (arith, q.kind.0, k) }

  pub no_value_next : NoValue S (end_at S i)
  no_value_next = behind (end_at S i) h.after (omega arith)

  -- each of its lines, where it is no `let`'s value itself
  no_value_lines : NoValue S i → (l : ℕ) → i ≤ l → l < end_at S i → NoValue S l
  no_value_lines a l u v = record { before = λ j e k. by_first j e k (leb l i) refl }
    where
      by_first : (j : ℕ) → suc j ≡ l → kind_at S j ≡ kinds.let' → (b : Bool) → leb l i ≡ b → ⊥
      by_first j e k true q = a.before j (let w = leb-true l i q in omega arith) k
      by_first j e k false q = (behind l (leb-false l i q) (omega arith)).before j e k

-- ------------------------------------------------------------ rules that ask no `let`'s value

abbrev pub OffValues : List ℕ → {A : Type 0} → Rule A → Type 0
OffValues S = Throughout (OfLine (NoValue S)) Any

module _ {s S : List ℕ} (d : Loaded s S) (Γ : rules.Env) where
  fits_at : {i : ℕ} → Here S grammar.Expr i → NoValue S i → Fits (OfLine (NoValue S)) Any Γ (expr_at s i)
  fits_at {i} h a =
      let p = placed_at d h in
      fits_lines (NoValue S) Any Γ (expr_at s i) p.1 (λ l u v. no_value_lines d h a l (omega (arith, p.0, u)) (omega (arith, p.2, v)))

  fits_row : {m i : ℕ} → Row S grammar.Expr m i → NoValue S i → FitsAll (OfLine (NoValue S)) Any Γ (exprs_at s m i)
  unfolding exprs_at take_nodes exprs_of
  fits_row stop a = tt
  fits_row {m = suc m} {i = i} (next h r) a = rw (exprs_next d m i h.within) (fits_at h a, fits_row r (no_value_next d h))

  pub off_type : {i : ℕ} → Here S grammar.Expr i → NoValue S i → OffValues S (ty_of Γ (expr_at s i))
  off_type h a = c_ty_of (OfLine (NoValue S)) Any Γ _ (fits_at h a)

  pub off_said : {i : ℕ} → Here S grammar.Expr i → NoValue S i → OffValues S {A = Unit} (ty_of Γ (expr_at s i) >> ret tt)
  off_said h a = c_then (OfLine (NoValue S)) Any _ _ (off_type h a) (c_ret (OfLine (NoValue S)) Any {A = Unit} tt)

  -- ... and a judgement of it that asks nothing
  pub off_judged : {i : ℕ} → Here S grammar.Expr i → NoValue S i → (b : Ty → Bool) (n at : ℕ) (ps : Ty → List Piece) → OffValues S (ty_of Γ (expr_at s i) >>= λ t. expect (b t) n at (ps t))
  off_judged h a b n at ps = c_bind (OfLine (NoValue S)) Any _ _ (off_type h a) (λ t. c_expect (OfLine (NoValue S)) Any (b t) n at (ps t))

  pub off_each : {m i : ℕ} → Row S grammar.Expr m i → NoValue S i → OffValues S (ask_each (typings Γ (exprs_at s m i)))
  off_each r a = c_each (OfLine (NoValue S)) Any _ (c_typings (OfLine (NoValue S)) Any Γ _ (fits_row r a))

  pub off_amount : (x : Name) {m i : ℕ} → Row S grammar.Expr m i → NoValue S i → OffValues S (amount_rule Γ x (exprs_at s m i))
  unfolding amount_rule
  off_amount x r a = c_provided (OfLine (NoValue S)) Any _ _ (c_amount (OfLine (NoValue S)) Any x _ (c_typings (OfLine (NoValue S)) Any Γ _ (fits_row r a)))

off_let : (S : List ℕ) {A : Type 0} (j : ℕ) (p : Rule A) → kind_at S j ≡ kinds.let' → OffValues S p → Off (suc j) p
off_let S j p k c = throughout_map (NoValue S) (λ l. suc j ≢ l) (λ l v e. v.before j e k) p c

-- ------------------------------------------------------------ locals

-- both tables have the same for the `let`'s value
abbrev pub SameValue : Table → Table → Node → Type 0
SameValue T U (node j l ps) = get_or U (suc j) 0 ≡ get_or T (suc j) 0

same_locals : (T U : Table) (ts : List Node) → All (SameValue T U) ts → map (local_of U) ts ≡ map (local_of T) ts
unfolding local_of
same_locals T U [] a = refl
same_locals T U (node j l ps ∷ ts) a = rw (a.0, same_locals T U ts a.1) refl

-- what is in force on T is so on U
pub record Onward (s S : List ℕ) (env : Env) (T U : Table) : Type 0 where
  pub room : line_count S ≤ length U
  pub same : env_of s U env ≡ env_of s T env

pub onward_with : {A : Type 0} (s S : List ℕ) (env : Env) (T U : Table) (p : Rule A) (a : A) → line_count S ≤ length T → kept p T ≡ record { res = ok a; table = U }
    → All (SameValue T U) (lets s env.bound env.body) → Onward s S env T U
unfolding env_of
onward_with s S env T U p a r e v =
    let l : length U ≡ length T = sym (ap (λ o. length o.table) e) ∙ kept-length p T in
    record { room = omega (arith, l, r); same = rw (same_locals T U _ v) refl }

pub onward : {A : Type 0} (s S : List ℕ) (env : Env) (T U : Table) (p : Rule A) (a : A) → Loaded s S → InForce S env → line_count S ≤ length T → OffValues S p → kept p T ≡ record { res = ok a; table = U } → Onward s S env T U
onward s S env T U p a d f r c e =
    onward_with s S env T U p a r e
    (lets_all d (SameValue T U) (λ j w k. rw (stands d j w).here (sym (ap (λ o. get_or o.table (suc j) 0) e) ∙ kept_off p T (suc j) (off_let S j p k c))) f.locals)

pub onward_here : (s S : List ℕ) (env : Env) (T : Table) → line_count S ≤ length T → Onward s S env T T
onward_here s S env T r = record { room = r; same = refl }

pub onward_then : {s S : List ℕ} {env : Env} {T U W : Table} → Onward s S env T U → Onward s S env U W → Onward s S env T W
onward_then a b = record { room = b.room; same = b.same ∙ a.same }
