-- `type_call`, `type_args`, `type_keyed` and `ask_each`: what each return and each call needs. Assumes nothing.
use mathlib.Core.Path.{◌≡◌, refl, sym, ap, ◌∙◌}
use mathlib.Core.List.{List, []}
use Prim.Native.Nat.{ℕ, suc, ◌+◌, ◌*◌, ◌-◌, ◌<◌}
use native.Mathlib.Numerals.{add-one}
use native.Mathlib.Omega.{arith}
use borrow.Author.Rules.{rules}
use lib.ListN.{length}
use Rattle.std.specs.Prelude.{Option, Result, Ok, Err}
use Rattle.grammar.specs.Grammar as grammar
use Rattle.sheet.specs.Scratch.{end_at, line_count, call_arg_count}
use Rattle.sheet.specs.Say.{span_at}
use Rattle.rules.specs.Ast.{call}
use Rattle.rules.specs.Asking.{ok, refused, Rule, ret, ◌>>◌}
use Rattle.rules.specs.declared.ty.Ty.{Ty}
use Rattle.rules.specs.Kept.{Table, kept}
use Rattle.rules.specs.Typing.{typing, typings, type_call, ask_each, check_keyed_call, expect_asset_receiver, expect_keyed_op, is_pool, state_field_of, keyed_field, ty_of_call}
use Rattle.rules.specs.Standing.{expr_at, exprs_at, Row, Loaded, Here}
use Rattle.rules.proofs.Binding.{kept-length, then_ok, then_refused}
use Rattle.rules.proofs.Exprs.{call_at_lem}
use Rattle.rules.proofs.Standing.{loaded_sheet, row_first, row_rest}
use Rattle.lookups.specs.Found.{found_field}
use Rattle.refusals.specs.Refusal.{refusal_of, done_of}
use Rattle.refusals.specs.declared.refusal.Refusal.{Refusal}
use Rattle.refusals.specs.Answers.{Answers}
use Rattle.env.specs.Answers.{typed_of}
use Rattle.env.specs.Calls.{keyed_of, KeyedOf, Callee, op_rule, call_ty}
use Rattle.env.proofs.Methods.{uses_op, uses-type}
use Rattle.env.specs.Force.{env_of, InForce}
use Rattle.env.specs.declared.env.Env.{Env}
use Rattle.typing.specs.Asks.{callee_at, args_at, type_keyed, type_args, AsksAt, AsksAll, AsksCall, Types, Does}
use Rattle.typing.proofs.Asking.{types-length}
use Rattle.typing.proofs.Onward.{Onward, onward, no_value_next, off_each}
use Rattle.grammar.specs.Kinds as kinds

pub does_length : (s : List ℕ) (p : Rule Unit) (T : Table) (d : Result Unit Refusal) (U : Table) → Does s p T d U → length U ≡ length T
does_length s p T d U k = sym (ap (λ o. length o.table) k.gives) ∙ kept-length p T

-- What a rule that gives no value did.
module _ (s : List ℕ) (p : Rule Unit) (T : Table) (d : Result Unit Refusal) (U : Table) (k : kept p T ≡ record { res = done_of s d; table = U }) where
  pub did : d ≡ Ok tt → kept p T ≡ record { res = ok tt; table = U }
  unfolding done_of
  did e = k ∙ rw e refl

  pub stopped : (r : Refusal) → d ≡ Err r → kept p T ≡ record { res = refused (refusal_of s r); table = U }
  unfolding done_of
  stopped r e = k ∙ rw e refl

gives_type : (t : Ty) (T : Table) → kept (ret t) T ≡ record { res = ok t; table = T }
unfolding kept
gives_type t T = refl

-- the parts of a call
pub parts : (s S : List ℕ) (env : Env) (T : Table) (i : ℕ) → Loaded s S → AsksAt kinds.call S T i
    → (expr_at s i ≡ call i (span_at s S i) (expr_at s (suc i)) (exprs_at s (call_arg_count S i) (end_at S (suc i)))) × Row S grammar.Expr (suc (call_arg_count S i)) (suc i)
parts s S env T i loaded h = call_at_lem loaded h.asks.here h.kind

-- ------------------------------------------------------------ type_call

module _ (s S : List ℕ) (env : Env) (T : Table) (i : ℕ) (loaded : Loaded s S) (force : InForce S env) (h : AsksAt kinds.call S T i) where
  pub call_callee : Here S grammar.Expr (i + 1)
  call_callee = rw (add-one i) (row_first (parts s S env T i loaded h).1)

  module _ (keyed : Option ℕ) (q : KeyedOf s S env (i + 1) keyed) where
    pub call_op : Callee S (i + 1) keyed
    call_op = record { expr = call_callee; kind = q.kind }

    pub call-args : AsksCall s S env T i keyed
    call-args = record { call = h; found = rw (add-one i) at q.found; kind = q.kind }

    module _ (d : Result Unit Refusal) (a : Answers (expect_asset_receiver (env_of s [] env) (expr_at s (i + 1))) (done_of s d)) where
      receiver : kept (expect_asset_receiver (env_of s T env) (expr_at s (i + 1))) T ≡ record { res = done_of s d; table = T }
      unfolding expect_asset_receiver is_pool state_field_of env_of
      receiver = a.answers T

      pub call_no_receiver : (r : Refusal) → d ≡ Err r → Types s (typing (env_of s T env) (expr_at s i)) T (Err r) T
      unfolding typing type_call typed_of ◌>>◌
      call_no_receiver r e =
          record { gives = rw ((parts s S env T i loaded h).0, ← add-one i) (then_refused _ _ T T (refusal_of s r) (stopped s _ T d T receiver r e)) }

      module _ (e : d ≡ Ok tt) (o : Result Unit Refusal) (j : Answers (op_rule (found_field s keyed) (expr_at s (i + 1))) (done_of s o)) where
        operation : kept (expect_keyed_op (env_of s T env) (expr_at s (i + 1))) T ≡ record { res = done_of s o; table = T }
        unfolding keyed_of keyed_field state_field_of env_of
        operation = rw (← uses_op (env_of s T env) (expr_at s (i + 1)) (found_field s keyed) q.found) (j.answers T)

        pub call_no_op : (r : Refusal) → o ≡ Err r → Types s (typing (env_of s T env) (expr_at s i)) T (Err r) T
        unfolding typing type_call typed_of ◌>>◌
        call_no_op r f =
            record {
              gives =
                  rw ((parts s S env T i loaded h).0, ← add-one i)
                  (then_ok _ _ T T tt _ (did s _ T d T receiver e) (then_refused _ _ T T (refusal_of s r) (stopped s _ T o T operation r f)));
            }

        pub call_ok : (r : Result Ty Refusal) (U : Table) → o ≡ Ok tt → Types s (type_args (env_of s T env) (callee_at s i) (args_at s S i)) T r U
            → Types s (typing (env_of s T env) (expr_at s i)) T r U
        unfolding typing type_call type_args type_keyed callee_at args_at ◌>>◌
        call_ok r U f k =
            record {
              gives =
                  rw (parts s S env T i loaded h).0
                  (then_ok _ _ T T tt _ (rw (← add-one i) (did s _ T d T receiver e)) (then_ok _ _ T T tt _ (rw (← add-one i) (did s _ T o T operation f)) k.gives));
            }

-- ------------------------------------------------------------ type_args and type_keyed

-- a call's rule goes on from another table
on_call : (s S : List ℕ) (env : Env) (T U : Table) (i : ℕ) (keyed : Option ℕ) → AsksCall s S env T i keyed → Onward s S env T U → AsksCall s S env U i keyed
on_call s S env T U i keyed h o =
    record { call = record { asks = record { room = o.room; here = h.call.asks.here }; kind = h.call.kind }; found = h.found; kind = h.kind }

module _ (s S : List ℕ) (env : Env) (T : Table) (i : ℕ) (keyed : Option ℕ) (loaded : Loaded s S) (force : InForce S env) (h : AsksCall s S env T i keyed) where
  p : Row S grammar.Expr (suc (call_arg_count S i)) (suc i)
  p = (parts s S env T i loaded h.call).1

  pub keyed_callee : Callee S (i + 1) keyed
  keyed_callee =
      record {
        expr = rw (add-one i) (row_first p);
        kind = h.kind;
      }

  module _ (at : ℕ) (e : at ≡ end_at S (i + 1)) where
    pub args_falls : (τ : ℕ) → 10 * (line_count S - i) + 3 ≡ τ → 10 * (line_count S - at) + 8 < τ
    args_falls τ q = omega (arith, e ∙ ap (end_at S) (add-one i), (row_first p).after, h.call.asks.here.within, q)

    module _ (m : ℕ) (c : m ≡ call_arg_count S i) where
      pub args_all : AsksAll S T m at
      args_all =
          record {
            room = h.call.asks.room;
            row = rw (c, e ∙ ap (end_at S) (add-one i)) (row_rest p);
            no_value = rw (e ∙ ap (end_at S) (add-one i)) (no_value_next loaded (row_first p));
          }

      module _ (d : Result Unit Refusal) (U : Table) (k : Does s (ask_each (typings (env_of s T env) (exprs_at s m at))) T d U) where
        asks : kept (ask_each (typings (env_of s T env) (args_at s S i))) T ≡ record { res = done_of s d; table = U }
        unfolding args_at
        asks = rw (← c, ← add-one i, ← e) k.gives

        pub args_no : (r : Refusal) → d ≡ Err r → Types s (type_args (env_of s T env) (callee_at s i) (args_at s S i)) T (Err r) U
        unfolding type_args typed_of
        args_no r f = record { gives = then_refused _ _ T U (refusal_of s r) (stopped s _ T d U asks r f) }

        module _ (f : d ≡ Ok tt) where
          on : Onward s S env T U
          on = onward s S env T U _ tt loaded force h.call.asks.room (off_each loaded (env_of s T env) args_all.row args_all.no_value) (did s _ T d U k.gives f)

          pub args_keyed : AsksCall s S env U i keyed
          args_keyed = on_call s S env T U i keyed h on

          pub args_ok : (r : Result Ty Refusal) (W : Table) → Types s (type_keyed (env_of s U env) (callee_at s i) (args_at s S i)) U r W
              → Types s (type_args (env_of s T env) (callee_at s i) (args_at s S i)) T r W
          unfolding type_args
          args_ok r W k' =
              record { gives = then_ok _ _ T U tt _ (did s _ T d U asks f) (rw (← on.same) k'.gives) }

  module _ (d : Result Unit Refusal) (U : Table) (k : Does s (check_keyed_call (env_of s T env) (callee_at s i) (typings (env_of s T env) (args_at s S i))) T d U) where
    pub keyed_no : (r : Refusal) → d ≡ Err r → Types s (type_keyed (env_of s T env) (callee_at s i) (args_at s S i)) T (Err r) U
    unfolding type_keyed typed_of
    keyed_no r f = record { gives = then_refused _ _ T U (refusal_of s r) (stopped s _ T d U k.gives r f) }

    call-type : (c : Ty) → c ≡ call_ty (found_field s keyed) (expr_at s (i + 1)) → c ≡ ty_of_call (env_of s T env) (callee_at s i)
    unfolding callee_at keyed_of keyed_field state_field_of env_of
    call-type c t =
        let g : found_field s keyed ≡ keyed_of (env_of s T env) (expr_at s (i + 1)) = rw (add-one i) h.found in
        rw (← add-one i, ← uses-type (env_of s T env) _ _ g) t

    pub keyed_ok : (c : Ty) → d ≡ Ok tt → c ≡ call_ty (found_field s keyed) (expr_at s (i + 1)) → Types s (type_keyed (env_of s T env) (callee_at s i) (args_at s S i)) T (Ok c) U
    unfolding type_keyed typed_of
    keyed_ok c f t =
        record {
          gives =
              then_ok (check_keyed_call (env_of s T env) (callee_at s i) (typings (env_of s T env) (args_at s S i))) _ T U tt _ (did s _ T d U k.gives f)
              (gives_type _ U ∙ rw (call-type c t) refl);
        }

pub ruleset laws_call = (rules, loaded_sheet, types-length, does_length, call_callee, call_op, call-args, call_no_receiver, call_no_op, call_ok)

pub ruleset laws_args = (rules, loaded_sheet, types-length, does_length, args_falls, args_all, args_no, args_keyed, args_ok)

pub ruleset laws_keyed = (rules, loaded_sheet, types-length, does_length, keyed_callee, keyed_no, keyed_ok)
