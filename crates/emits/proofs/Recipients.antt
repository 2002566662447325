-- The recipients of a call: what each return and each call needs. Assumes nothing.
use mathlib.Core.Logic.{◌≢◌}
use mathlib.Core.Path.{◌≡◌, refl, sym, ap, ◌∙◌}
use mathlib.Core.List.{List, [], ◌∷◌}
use mathlib.Core.Bool.{Bool, true, false, not, ◌||◌, true≢false}
use denote.Enum.Bare.{sameb}
use Prim.Native.Nat.{ℕ, zero, suc, min, ◌+◌, ◌<◌, ◌≤◌}
use native.Mathlib.Numerals.{add-one}
use native.Mathlib.Omega.{arith}
use borrow.Author.Tests.{eq-eqb, ne_eqb}
use lib.ListN.{take, length}
use Rattle.std.specs.Prelude.{Result, Ok, Err, slice_get}
use Rattle.text.specs.Text.{bytes, same}
use Rattle.text.proofs.Tests.{or_parts}
use Rattle.grammar.specs.Grammar as grammar
use Rattle.sheet.specs.Scratch.{kind_at, end_at, name_at, line_count, skip, call_arg_count}
use Rattle.sheet.specs.Tree.{take_nodes}
use Rattle.rules.specs.Text.{Name, is, pick}
use Rattle.rules.specs.Ast.{Expr, list, span, exprs_of}
use Rattle.rules.specs.Asking.{Rule, ◌>>=◌, expect, if_some, for_each}
use Rattle.rules.specs.contracts.ty.Ty.{the_type}
use Rattle.rules.specs.declared.ty.Ty.{Ty}
use Rattle.rules.specs.declared.ty.Ty.TheVariants.{Name as TName}
use Rattle.rules.specs.Kept.{Table, kept}
use Rattle.rules.specs.Types.{eq_ty}
use Rattle.rules.specs.Typing.{Env as Environment, ty_of}
use Rattle.rules.specs.Statements.{positions, recipient_text, refuse_name_recipient}
use Rattle.rules.specs.Standing.{expr_at, exprs_at, Loaded, Row, stop, next, Here}
use Rattle.rules.proofs.Exprs.{call_at_lem, ident_at, is-call_at}
use Rattle.rules.proofs.Same.{told_ty}
use Rattle.rules.proofs.Standing.{exprs_next, row_first, row_rest, row_nth, row_take, loaded_sheet}
use Rattle.refusals.specs.Refusal.{refusal_of, done_of}
use Rattle.refusals.specs.declared.refusal.Refusal.{Refusal}
use Rattle.refusals.specs.declared.refusal.Refusal.TheVariants.{Recipient}
use Rattle.refusals.specs.Answers.{Answers, expected}
use Rattle.refusals.proofs.Answers.{expects}
use Rattle.env.specs.Force.{env_of, InForce}
use Rattle.env.specs.declared.env.Env.{Env}
use Rattle.typing.specs.Asks.{Asks, NoValue, Types, Does}
use Rattle.typing.specs.Each.{Post, Gives, GivesEach}
use Rattle.typing.proofs.Doing.{typed_then, not_typed}
use Rattle.typing.proofs.Arguments.{exprs_do}
use Rattle.typing.proofs.Each.{DoesEach, does_at}
use Rattle.typing.proofs.Onward.{OffValues, no_value_next, off_judged}
use Rattle.emits.specs.Recipient.{recipient_rule, recipients_rule, Recipients}
use Rattle.grammar.specs.Kinds as kinds

-- ------------------------------------------------------------ recipients

-- the recipients' places, by whether the name is `send`, `mint_asset` and `send_asset`
by_name : (a b c : Bool) → List ℕ
by_name a b c = elim a [ true ↦ 0 ∷ [] | false ↦ elim b [ true ↦ 0 ∷ [] | false ↦ elim c [ true ↦ 0 ∷ 1 ∷ [] | false ↦ [] ] ] ]

first_only : (a b c : Bool) → (a || b) ≡ true → by_name a b c ≡ 0 ∷ []
unfolding by_name
first_only true b c e = refl
first_only false true c e = refl
first_only false false c e = absurd (true≢false (sym e))

module _ (s S : List ℕ) (callee : ℕ) (d : Loaded s S) (h : Here S grammar.Expr callee) where
  pub no_name : kind_at S callee ≢ kinds.id → Recipients s callee 0
  unfolding positions
  no_name n = record { first = rw (positions, ident_at d h, ne_eqb (kind_at S callee) kinds.id n) refl; few = omega arith }

  module _ (x : Name) (e : kind_at S callee ≡ kinds.id) (ex : x ≡ name_at s S callee) (a b : Bool) (u : a ≡ same x (bytes "send")) (v : b ≡ same x (bytes "mint_asset")) where
    by_tests : (c : Bool) → c ≡ same x (bytes "send_asset") → positions (expr_at s callee) ≡ by_name a b c
    unfolding positions by_name pick is
    by_tests c w = rw (positions, ident_at d h, eq-eqb (kind_at S callee) kinds.id e, ← ex, u, v, w) refl

    pub one_recipient : (a || b) ≡ true → Recipients s callee 1
    one_recipient t = record { first = by_tests _ refl ∙ first_only a b _ t; few = omega arith }

    module _ (t : (a || b) ≡ false) (c : Bool) (w : c ≡ same x (bytes "send_asset")) where
      left : positions (expr_at s callee) ≡ by_name false false c
      left = let n = or_parts a b t in by_tests c w ∙ rw (n.0, n.1) refl

      pub two_recipients : c ≡ true → Recipients s callee 2
      unfolding by_name
      two_recipients q = record { first = left ∙ rw q refl; few = omega arith }

      pub no_recipient : c ≡ false → Recipients s callee 0
      unfolding by_name
      no_recipient q = record { first = left ∙ rw q refl; few = omega arith }

-- ------------------------------------------------------------ one recipient

module _ (s S : List ℕ) (env : Env) (T : Table) (arg : ℕ) (a : Result Ty Refusal) (U : Table) (k : Types s (ty_of (env_of s T env) (expr_at s arg)) T a U) where
  pub recipient_no : (r : Refusal) → a ≡ Err r → Does s (recipient_rule (env_of s T env) (expr_at s arg)) T (Err r) U
  unfolding recipient_rule
  recipient_no r e = not_typed s (ty_of (env_of s T env) (expr_at s arg)) _ T a U k r e

  module _ (t : Ty) (b : Bool) (e : a ≡ Ok t) (n : b ≡ not (sameb the_type t TName)) where
    judged : (r : Result Unit Refusal) → r ≡ expected b (Recipient arg) → Answers (expect (not (eq_ty t TName)) 29 (span (expr_at s arg)) recipient_text) (done_of s r)
    unfolding refusal_of
    judged r x = rw (← told_ty t TName (sameb the_type t TName) refl, ← n) (expects s b (Recipient arg) r x)

    pub recipient_ok : (r : Result Unit Refusal) → r ≡ expected b (Recipient arg) → Does s (recipient_rule (env_of s T env) (expr_at s arg)) T r U
    unfolding recipient_rule
    recipient_ok r x = typed_then s (ty_of (env_of s T env) (expr_at s arg)) _ T a U k t r e (judged r x)

-- ------------------------------------------------------------ several recipients

-- a recipient's type is asked of no `let`'s value
off_recipient : {s S : List ℕ} → Loaded s S → (Γ : Environment) (j : ℕ) → Here S grammar.Expr j → NoValue S j → OffValues S (recipient_rule Γ (expr_at s j))
unfolding recipient_rule
off_recipient d Γ j h v = off_judged d Γ h v _ _ _ _

recipients_do : {s S : List ℕ} {env : Env} → Loaded s S → InForce S env → {T : Table} → line_count S ≤ length T → {left at : ℕ} → Row S grammar.Expr left at → NoValue S at → {post : Post} {r : Result Unit Refusal} {U : Table} → GivesEach (Gives post) S left at T r U
    → DoesEach post s (λ V j. recipient_rule (env_of s V env) (expr_at s j)) → Does s (recipients_rule (env_of s T env) (list (exprs_at s left at))) T r U
unfolding recipients_rule
recipients_do {s} {env = env} d f {T} room w v g q =
    exprs_do d f recipient_rule (off_recipient d) (λ j V r W p. does_at (λ V j. recipient_rule (env_of s V env) (expr_at s j)) q j V r W p) T room w v g

-- ------------------------------------------------------------ refuse_name_recipient

-- the arguments at these places, as far as they are there, are the first ones
first_ones : (n : ℕ) → n ≤ 2 → (f : Expr → Rule Unit) (es : List Expr) (T : Table)
    → kept (for_each (take n (0 ∷ 1 ∷ [])) λ index. if_some (slice_get es index) f) T ≡ kept (for_each (take n es) f) T
unfolding for_each if_some ◌>>=◌
first_ones zero l f es T = refl
first_ones (suc zero) l f [] T = refl
first_ones (suc zero) l f (a ∷ es) T = refl
first_ones (suc (suc zero)) l f [] T = refl
first_ones (suc (suc zero)) l f (a ∷ []) T = refl
first_ones (suc (suc zero)) l f (a ∷ b ∷ es) T = refl
first_ones (suc (suc (suc n))) l f es T = absurd (omega arith)

take_min : {s S : List ℕ} (due n : ℕ) {m i : ℕ} → Loaded s S → Row S grammar.Expr m i → n ≡ min m due → take due (list (exprs_at s m i)) ≡ list (exprs_at s n i)
unfolding exprs_at take_nodes exprs_of list
take_min zero zero d r e = refl
take_min zero (suc n) d r e = absurd (omega (arith, e))
take_min (suc k) zero d stop e = refl
take_min (suc k) (suc n) d stop e = absurd (omega (arith, e))
take_min (suc k) zero d (next h r) e = absurd (omega (arith, e))
take_min {s} (suc k) (suc n) {m = suc m} {i} d (next h r) e =
    rw (exprs_next d m i h.within, exprs_next d n i h.within) (ap (λ es. expr_at s i ∷ es) (take_min k n d r (omega (arith, e))))

module _ (s S : List ℕ) (env : Env) (T : Table) (i : ℕ) (loaded : Loaded s S) (force : InForce S env) (h : Asks S T i) where
  abbrev Refuses : Rule Unit
  Refuses = refuse_name_recipient (env_of s T env) (expr_at s i)

  pub no_call : kind_at S i ≢ kinds.call → Does s Refuses T (Ok tt) T
  unfolding refuse_name_recipient if_some done_of kept
  no_call n = record { gives = rw (is-call_at loaded h.here, ne_eqb (kind_at S i) kinds.call n) refl }

  module _ (e : kind_at S i ≡ kinds.call) where
    all : Row S grammar.Expr (suc (call_arg_count S i)) (suc i)
    all = (call_at_lem loaded h.here e).1

    pub callee_there : Here S grammar.Expr (i + 1)
    callee_there = rw (add-one i) (row_first all)

    module _ (m due at n : ℕ) (em : m ≡ call_arg_count S i) (r : Recipients s (i + 1) due) (ea : at ≡ end_at S (i + 1)) (en : n ≡ min m due) where
      args : Row S grammar.Expr m at
      args = rw (em, ea, add-one i) (row_rest all)

      args_no_value : NoValue S at
      args_no_value = rw (ea, add-one i) (no_value_next loaded (row_first all))

      opened' : kept Refuses T ≡ kept (recipients_rule (env_of s T env) (take due (list (exprs_at s m at)))) T
      unfolding refuse_name_recipient recipients_rule recipient_rule if_some
      opened' =
          rw (is-call_at loaded h.here, eq-eqb (kind_at S i) kinds.call e, ← add-one i, r.first, ← em, ← ea)
          (first_ones due r.few (recipient_rule (env_of s T env)) (list (exprs_at s m at)) T)

      due_row : Row S grammar.Expr n at
      due_row = row_take n (omega (arith, en)) args

      pub due_asks : (U : Table) (k : ℕ) → length U ≡ length T → k < n → Asks S U (skip S k at)
      due_asks U k l b = record { room = rw l h.room; here = row_nth k b due_row }

      pub due_done : (d : Result Unit Refusal) (U : Table) {post : Post} → GivesEach (Gives post) S n at T d U → DoesEach post s (λ V j. recipient_rule (env_of s V env) (expr_at s j)) → Does s Refuses T d U
      due_done d U g f = record { gives = opened' ∙ rw (take_min due n loaded args en) (recipients_do loaded force h.room due_row args_no_value g f).gives }

pub ruleset laws_recipients = (loaded_sheet, no_name, one_recipient, two_recipients, no_recipient)
