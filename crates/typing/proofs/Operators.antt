-- `ty_of_unary` and `ty_of_binary`: what each return and each call needs. Assumes nothing.
use mathlib.Core.Path.{◌≡◌, refl, ap, ◌∙◌}
use mathlib.Core.List.{List}
use Prim.Native.Nat.{ℕ, suc, ◌+◌, ◌*◌, ◌-◌, ◌<◌}
use native.Mathlib.Numerals.{add-one}
use native.Mathlib.Omega.{arith}
use borrow.Author.Rules.{rules}
use lib.ListN.{get_or}
use Rattle.std.specs.Prelude.{Result, Ok, Err}
use Rattle.grammar.specs.Grammar as grammar
use Rattle.sheet.specs.Scratch.{op_at, end_at, line_count}
use Rattle.sheet.specs.Say.{span_at}
use Rattle.rules.specs.Ast.{Neg, Shr, unary_ops, bin_ops, unary, binary}
use Rattle.rules.specs.Asking.{ok, Rule, ◌>>=◌}
use Rattle.rules.specs.declared.ty.Ty.{Ty}
use Rattle.rules.specs.Kept.{Table, kept}
use Rattle.rules.specs.Typing.{asked, ask_of, ty_of, typing, judge_unary, judge_binary, ty_of_unary, ty_of_binary}
use Rattle.rules.specs.Standing.{expr_at, Row, Loaded}
use Rattle.rules.proofs.Binding.{then_ok, then_refused}
use Rattle.rules.proofs.Exprs.{un_at, bin_at}
use Rattle.rules.proofs.Standing.{loaded_sheet, row_first, row_rest}
use Rattle.refusals.specs.Refusal.{refusal_of}
use Rattle.refusals.specs.declared.refusal.Refusal.{Refusal}
use Rattle.rules.specs.Operators.{bin_meant, unary_meant}
use Rattle.rules.proofs.Operators.{unary_told, bin_told}
use Rattle.grammar.specs.Coded.{bin_of, unary_of}
use Rattle.grammar.specs.declared.ops.UnaryOp.{UnaryOp}
use Rattle.grammar.specs.declared.ops.BinOp.{BinOp}
use Rattle.env.specs.Answers.{typed_of, Judged, JudgedIn, Operands}
use Rattle.env.specs.Force.{env_of, InForce}
use Rattle.env.specs.declared.env.Env.{Env}
use Rattle.typing.specs.Asks.{Asks, AsksAt, Types}
use Rattle.typing.proofs.Asking.{types-length}
use Rattle.typing.proofs.Onward.{Onward, onward, no_value_below, off_type}
use Rattle.grammar.specs.Kinds as kinds

-- What an asking gave.
module _ (s : List ℕ) (p : Rule Ty) (T : Table) (a : Result Ty Refusal) (U : Table) (k : Types s p T a U) where
  pub gave : (c : Ty) → a ≡ Ok c → kept p T ≡ record { res = ok c; table = U }
  unfolding typed_of
  gave c e = k.gives ∙ rw e refl

  -- a refusal ends the rule
  pub ends : (f : Ty → Rule Ty) (r : Refusal) → a ≡ Err r → Types s (p >>= f) T (Err r) U
  unfolding typed_of
  ends f r e = record { gives = then_refused p f T U (refusal_of s r) (k.gives ∙ rw e refl) }

module _ (s S : List ℕ) (env : Env) (T : Table) (i : ℕ) (loaded : Loaded s S) (force : InForce S env) (h : AsksAt kinds.un S T i) where
  un : (expr_at s i ≡ unary i (span_at s S i) (get_or unary_ops (op_at S i) Neg) (expr_at s (suc i))) × Row S grammar.Expr 1 (suc i)
  un = un_at loaded h.asks.here h.kind

  pub un_child : Asks S T (i + 1)
  un_child = record { room = h.asks.room; here = rw (add-one i) (row_first un.1) }

  module _ (a : Result Ty Refusal) (U : Table) (k : Types s (ty_of (env_of s T env) (expr_at s (i + 1))) T a U) where
    pub un_ok : (c : Ty) (o : UnaryOp) (r : Result Ty Refusal) → a ≡ Ok c → o ≡ unary_of (op_at S i) → Judged (λ x. judge_unary (unary_meant o) (expr_at x (i + 1))) c r
        → Types s (typing (env_of s T env) (expr_at s i)) T r U
    unfolding typing ty_of_unary ty_of ask_of asked
    un_ok c o r e q j =
        record {
          gives =
              rw (un.0, ← unary_told (op_at S i), ← q, ← add-one i)
              (then_ok (ty_of (env_of s T env) (expr_at s (i + 1))) (judge_unary (unary_meant o) (expr_at s (i + 1))) T U c _ (gave s _ T a U k c e)
              ((j.judged s).answers U));
        }

    pub un_no : (r : Refusal) → a ≡ Err r → Types s (typing (env_of s T env) (expr_at s i)) T (Err r) U
    unfolding typing ty_of_unary ty_of ask_of asked
    un_no r e = rw (un.0, ← add-one i) (ends s (ty_of (env_of s T env) (expr_at s (i + 1))) T a U k _ r e)

module _ (s S : List ℕ) (env : Env) (T : Table) (i : ℕ) (loaded : Loaded s S) (force : InForce S env) (h : AsksAt kinds.bin S T i) where
  bin : (expr_at s i ≡ binary i (span_at s S i) (get_or bin_ops (op_at S i) Shr) (expr_at s (suc i)) (expr_at s (end_at S (suc i)))) × Row S grammar.Expr 2 (suc i)
  bin = bin_at loaded h.asks.here h.kind

  pub bin_left : Asks S T (i + 1)
  bin_left = record { room = h.asks.room; here = rw (add-one i) (row_first bin.1) }

  module _ (m : ℕ) (em : m ≡ end_at S (i + 1)) where
    right : m ≡ end_at S (suc i)
    right = em ∙ ap (end_at S) (add-one i)

    pub bin_falls : (τ : ℕ) → 10 * (line_count S - i) + 4 ≡ τ → 10 * (line_count S - m) + 7 < τ
    bin_falls τ e = omega (arith, right, (row_first bin.1).after, h.asks.here.within, e)

    pub bin_operands : Operands S (i + 1) m
    bin_operands =
        record {
          one = bin_left.here;
          other = rw right (row_first (row_rest bin.1));
        }

    module _ (a : Result Ty Refusal) (U : Table) (k : Types s (ty_of (env_of s T env) (expr_at s (i + 1))) T a U) (c : Ty) (e : a ≡ Ok c) where
      on : Onward s S env T U
      on = onward s S env T U _ _ loaded force h.asks.room (rw (add-one i) (off_type loaded (env_of s T env) (row_first bin.1) (no_value_below S i (omega (arith, h.kind))))) (gave s _ T a U k c e)

      pub bin_right : Asks S U m
      bin_right = record { room = on.room; here = bin_operands.other }

      module _ (b : Result Ty Refusal) (W : Table) (g : Types s (ty_of (env_of s U env) (expr_at s m)) U b W) where
        second : Types s (ty_of (env_of s T env) (expr_at s m)) U b W
        second = rw (← on.same) g

        pub bin_ok : (d : Ty) (o : BinOp) (r : Result Ty Refusal) → b ≡ Ok d → o ≡ bin_of (op_at S i) → JudgedIn s (judge_binary (bin_meant o)) (record { left = i + 1; right = m; l = c; r = d }) r
            → Types s (typing (env_of s T env) (expr_at s i)) T r W
        unfolding typing ty_of_binary ty_of ask_of asked
        bin_ok d o r f q j =
            record {
              gives =
                  rw (bin.0, ← bin_told (op_at S i), ← q, ← right, ← add-one i)
                  (then_ok (ty_of (env_of s T env) (expr_at s (i + 1))) _ T U c _ (gave s _ T a U k c e)
                  (then_ok (ty_of (env_of s T env) (expr_at s m)) _ U W d _ (gave s _ U b W second d f)
                  (j.answers W)));
            }

        pub bin_no : (r : Refusal) → b ≡ Err r → Types s (typing (env_of s T env) (expr_at s i)) T (Err r) W
        unfolding typing ty_of_binary ty_of ask_of asked
        bin_no r f =
            record {
              gives =
                  rw (bin.0, ← right, ← add-one i)
                  (then_ok (ty_of (env_of s T env) (expr_at s (i + 1))) _ T U c _ (gave s _ T a U k c e)
                  (ends s (ty_of (env_of s T env) (expr_at s m)) U b W second _ r f).gives);
            }

  pub bin_no_left : (a : Result Ty Refusal) (U : Table) (r : Refusal) → Types s (ty_of (env_of s T env) (expr_at s (i + 1))) T a U → a ≡ Err r
      → Types s (typing (env_of s T env) (expr_at s i)) T (Err r) U
  unfolding typing ty_of_binary ty_of ask_of asked
  bin_no_left a U r k e = rw (bin.0, ← add-one i) (ends s (ty_of (env_of s T env) (expr_at s (i + 1))) T a U k _ r e)

pub ruleset laws_un = (rules, loaded_sheet, types-length, un_child, un_ok, un_no)

pub ruleset laws_bin = (rules, loaded_sheet, types-length, bin_left, bin_falls, bin_operands, bin_right, bin_ok, bin_no, bin_no_left)
