-- Expressions one behind another, of which the first is no `let`'s value: a rule for each of them, and `ask_each`. Assumes nothing.
use mathlib.Core.Path.{◌≡◌, refl, sym, ◌∙◌}
use mathlib.Core.List.{List}
use Prim.Native.Nat.{ℕ, ◌+◌, ◌*◌, ◌-◌, ◌<◌, ◌≤◌}
use native.Mathlib.Omega.{arith}
use lib.ListN.{length}
use Rattle.std.specs.Prelude.{Result, Ok, Err}
use Rattle.grammar.specs.Grammar as grammar
use Rattle.sheet.specs.Scratch.{end_at, line_count, skip}
use Rattle.sheet.specs.Records.{Steps}
use Rattle.sheet.specs.declared.records.Records.{Records}
use Rattle.rules.specs.Ast.{Expr, Exprs, nil, more, list}
use Rattle.rules.specs.Asking.{Rule, ret, ◌>>=◌, ◌>>◌, for_each}
use Rattle.rules.specs.declared.ty.Ty.{Ty}
use Rattle.rules.specs.Kept.{Table, kept}
use Rattle.rules.specs.Typing as typing
use Rattle.rules.specs.Typing.{asked, ask_of, ask_each, ty_of, typings}
use Rattle.rules.specs.Standing.{expr_at, exprs_at, Loaded, Here, Row}
use Rattle.rules.proofs.Binding.{kept_assoc, kept_behind}
use Rattle.rules.proofs.Forest.{skip_least}
use Rattle.rules.proofs.Rows.{exprs}
use Rattle.rules.proofs.Standing.{row_nth, row_take}
use Rattle.refusals.specs.Refusal.{done_of}
use Rattle.refusals.specs.declared.refusal.Refusal.{Refusal}
use Rattle.refusals.proofs.Answers.{gives}
use Rattle.env.specs.Force.{env_of, InForce}
use Rattle.env.specs.declared.env.Env.{Env}
use Rattle.typing.specs.Asks.{Asks, AsksAll, NoValue, Types, Does}
use Rattle.typing.specs.Each.{Step, GivesEach}
use Rattle.typing.proofs.Calls.{did}
use Rattle.typing.proofs.Doing.{typed_then, not_typed}
use Rattle.typing.proofs.Each.{EachLeft, each_over, each_refused, each_onward, each_here, each_keeps}
use Rattle.typing.proofs.Onward.{OffValues, Onward, onward, onward_here, onward_then, no_value_next, off_said}

-- ------------------------------------------------------------ a rule for each

-- A rule that asks no `let`'s value keeps the locals' types. So a step that does what the rule says of each expression does what it says of all of them.
module _ {s S : List ℕ} {env : Env} (loaded : Loaded s S) (force : InForce S env) (rule : typing.Env → Expr → Rule Unit) (off : (Γ : typing.Env) (j : ℕ) → Here S grammar.Expr j → NoValue S j → OffValues S (rule Γ (expr_at s j)))
    {P : Step} (does : (j : ℕ) (T : Table) (r : Result Unit Refusal) (U : Table) → P j T r U → Does s (rule (env_of s T env) (expr_at s j)) T r U) (T : Table) (room : line_count S ≤ length T) where
  one_more : (j : ℕ) (V : Table) (d : Result Unit Refusal) (W : Table) → Here S grammar.Expr j → NoValue S j × Onward s S env T V → P j V d W
      → Does s (rule (env_of s T env) (expr_at s j)) V d W × (d ≡ Ok tt → NoValue S (end_at S j) × Onward s S env T W)
  one_more j V d W h k p =
      let g = does j V d W p in
      (rw k.1.same at g, λ e. (no_value_next loaded h, onward_then k.1 (onward s S env V W (rule (env_of s V env) (expr_at s j)) tt loaded force k.1.room (off (env_of s V env) j h k.0) (did s _ V d W g.gives e))))

  pub exprs_do : {left at : ℕ} {r : Result Unit Refusal} {U : Table} → Row S grammar.Expr left at → NoValue S at → GivesEach P S left at T r U → Does s (for_each (list (exprs_at s left at)) (rule (env_of s T env))) T r U
  exprs_do w v g = each_keeps exprs (rule (env_of s T env)) loaded (λ j V. NoValue S j × Onward s S env T V) one_more w (v, onward_here s S env T room) g

-- ------------------------------------------------------------ ask_each

-- a type that is asked and not said
abbrev unsaid : Rule Ty → Rule Unit
unsaid p = p >> ret tt

abbrev pub said_not : typing.Env → Expr → Rule Unit
said_not Γ e = unsaid (ty_of Γ e)

-- ... before another rule
left_out : (p : Rule Ty) (q q' : Rule Unit) (T : Table) → ((U : Table) → kept q U ≡ kept q' U) → kept (unsaid p >>= λ _. q) T ≡ kept (p >>= λ _. q') T
unfolding ◌>>◌ ◌>>=◌
left_out p q q' T h = kept_assoc (λ _. ret tt) (λ _. q) p T ∙ kept_behind p (λ _. q) (λ _. q') T (λ _. h)

-- the typing of all of them
pub each_typed : (Γ : typing.Env) (es : Exprs) (T : Table) → kept (for_each (list es) (said_not Γ)) T ≡ kept (ask_each (typings Γ es)) T
unfolding for_each list ask_each typings ty_of ask_of asked
each_typed Γ nil T = refl
each_typed Γ (more e es) T = left_out (ty_of Γ e) _ _ T (each_typed Γ es)

-- what the typing of one expression answers and leaves
abbrev pub Typed : List ℕ → Env → Step
Typed s env j T r U = Does s (said_not (env_of s T env) (expr_at s j)) T r U

module _ (s : List ℕ) (env : Env) (j : ℕ) (T : Table) (a : Result Ty Refusal) (U : Table) (k : Types s (ty_of (env_of s T env) (expr_at s j)) T a U) where
  was_typed : (c : Ty) → a ≡ Ok c → Typed s env j T (Ok tt) U
  unfolding ◌>>◌ done_of
  was_typed c e = typed_then s _ (λ _. ret tt) T a U k c (Ok tt) e (gives tt)

  was_refused : (x : Refusal) → a ≡ Err x → Typed s env j T (Err x) U
  unfolding ◌>>◌
  was_refused x e = not_typed s _ (λ _. ret tt) T a U k x e

module _ (s S : List ℕ) (env : Env) (T₀ : Table) (left at : ℕ) (loaded : Loaded s S) (force : InForce S env) (h : AsksAll S T₀ left at) (r : Records) (T : Table) (w : EachLeft (Typed s env) S left at T₀ r T) where
  all_typed : {d : Result Unit Refusal} {U : Table} → GivesEach (Typed s env) S left at T₀ d U → Does s (ask_each (typings (env_of s T₀ env) (exprs_at s left at))) T₀ d U
  all_typed g =
      record {
        gives =
            sym (each_typed (env_of s T₀ env) (exprs_at s left at) T₀)
            ∙ (exprs_do loaded force said_not (λ Γ j a v. off_said loaded Γ a v) (λ j V d W p. p) T₀ h.room h.row h.no_value g).gives;
      }

  pub each_end : r.left ≡ 0 → Does s (ask_each (typings (env_of s T₀ env) (exprs_at s left at))) T₀ (Ok tt) T
  each_end e = all_typed (each_over w e)

  module _ (arg : ℕ) (t : Records) (n : Steps r arg t) where
    one : (arg ≡ skip S w.behind at) × (w.behind < left)
    one = each_here w n

    pub each_asks : length T ≡ length T₀ → Asks S T arg
    each_asks l = record { room = rw l h.room; here = rw one.0 (row_nth w.behind one.1 h.row) }

    pub each_falls : (τ : ℕ) → 10 * (line_count S - at) + 8 ≡ τ → 10 * (line_count S - arg) + 7 < τ
    each_falls τ e = omega (arith, one.0, skip_least (row_take w.behind (omega (arith, one.1)) h.row), e)

    module _ (a : Result Ty Refusal) (U : Table) (k : Types s (ty_of (env_of s T env) (expr_at s arg)) T a U) where
      pub each_no : (x : Refusal) → a ≡ Err x → Does s (ask_each (typings (env_of s T₀ env) (exprs_at s left at))) T₀ (Err x) U
      each_no x e = all_typed (each_refused w n (Err x) U x (was_refused s env arg T a U k x e) refl)

      pub each_next : (c : Ty) → a ≡ Ok c → EachLeft (Typed s env) S left at T₀ t U
      each_next c e = each_onward w n (Ok tt) U (was_typed s env arg T a U k c e) refl
