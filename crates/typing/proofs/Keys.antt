-- `check_keyed_call`, `check_amount` and `check_keys`: what each return and each call needs. Assumes nothing.
use mathlib.Core.Logic.{◌⊎◌, inl, inr}
use mathlib.Core.Path.{◌≡◌, refl, sym, ap, ◌∙◌}
use mathlib.Core.List.{List, [], ◌∷◌}
use mathlib.Core.Bool.{Bool, true, false, cond, not}
use Prim.Native.Nat.{ℕ, zero, suc, ◌+◌, ◌*◌, ◌-◌, ◌<◌, ◌≤◌}
use native.Mathlib.Numerals.{add-one}
use native.Mathlib.Omega.{arith}
use borrow.Author.Rules.{rules}
use borrow.Author.Tests.{eq-eqb, ne_eqb, eqb-true, not-true, not-false}
use lib.Dec.{eqb}
use lib.ListN.{take, drop}
use Rattle.std.specs.Prelude.{Option, Some, None, Result, Ok, Err}
use Rattle.std.specs.declared.ops.Range.{Range}
use Rattle.std.proofs.iter.Yields.{nat_range_steps}
use Rattle.grammar.specs.Grammar as grammar
use Rattle.sheet.specs.Scratch.{kind_at, end_at, name_at, line_count, call_arg_count}
use Rattle.sheet.specs.Records.{Steps, NextOf}
use Rattle.sheet.specs.declared.records.Records.{Records}
use Rattle.sheet.specs.Say.{nspan_at}
use Rattle.sheet.specs.Tree.{take_nodes}
use Rattle.rules.specs.Text.{Name, is, is_one}
use Rattle.rules.specs.Ast.{Type', Expr, Field, more, exprs_of}
use Rattle.rules.specs.Asking.{ok, Rule, ◌>>=◌, ◌>>◌, provided, if_some}
use Rattle.rules.specs.declared.ty.Ty.{Ty}
use Rattle.rules.specs.Kept.{Table, Kept, kept}
use Rattle.rules.specs.Types.{declared_arg}
use Rattle.rules.specs.Typing.{Env as Environment, Asked, Dot, asked, ask_of, ty_of, typings, dot_of, keyed_field, state_field_of, expected, check_amount, check_keys, judge_key, is_name_param, check_keyed_call}
use Rattle.rules.specs.Standing.{expr_at, exprs_at, field_at, type_at, Loaded, Row, Here}
use Rattle.rules.proofs.Binding.{then_ok, then_refused}
use Rattle.rules.proofs.Exprs.{is_dot_at}
use Rattle.rules.proofs.Standing.{loaded_sheet, exprs_next, row_first, row_rest}
use Rattle.lookups.specs.Found.{found_field}
use Rattle.refusals.specs.Refusal.{dot_at, refusal_of, done_of}
use Rattle.refusals.specs.declared.refusal.Refusal.{Refusal}
use Rattle.env.proofs.Lookups.{TypeBehind, behind as type_behind}
use Rattle.env.specs.Answers.{typed_of, JudgesAmount, JudgesKey}
use Rattle.env.specs.Calls.{wants_of, keyed_of}
use Rattle.env.specs.Force.{env_of, InForce}
use Rattle.env.specs.declared.env.Env.{Env}
use Rattle.typing.specs.Asks.{callee_at, args_at, method_at, amount_rule, wanted, keys_rule, Asks, AsksCall, AsksMethod, AsksKeys, Types, Does}
use Rattle.typing.proofs.Asking.{types-length}
use Rattle.typing.proofs.Onward.{Onward, onward, no_value_next, off_type, off_amount}
use Rattle.typing.proofs.Operators.{gave}
use Rattle.typing.proofs.Calls.{does_length, parts, did, stopped}
use Rattle.grammar.specs.Kinds as kinds

-- ------------------------------------------------------------ check_keyed_call

-- the types that a method's arguments must have, by how many are judged
wants_are : (x : Name) (ty : Type') → expected x ty ≡ wanted ty 0 (wants_of x)
unfolding expected wanted wants_of
wants_are x ty = by_cases (is x "set") (is_one x ("insert" ∷ "remove" ∷ "contains" ∷ "get" ∷ "credit" ∷ "debit" ∷ []))
  where
    by_cases : (a b : Bool)
        → ◌≡◌ {A = List Ty} (elim a [ true ↦ declared_arg ty 0 ∷ declared_arg ty 1 ∷ [] | false ↦ elim b [ true ↦ declared_arg ty 0 ∷ [] | false ↦ [] ] ])
        (drop 0 (take (elim a as (λ _. ℕ) [ true ↦ 2 | false ↦ elim b [ true ↦ 1 | false ↦ 0 ] ]) (declared_arg ty 0 ∷ declared_arg ty 1 ∷ [])))
    by_cases true b = refl
    by_cases false true = refl
    by_cases false false = refl

wants_few : (x : Name) → wants_of x ≤ 2
unfolding wants_of
wants_few x = by_cases (is x "set") (is_one x ("insert" ∷ "remove" ∷ "contains" ∷ "get" ∷ "credit" ∷ "debit" ∷ []))
  where
    by_cases : (a b : Bool) → elim a as (λ _. ℕ) [ true ↦ 2 | false ↦ elim b [ true ↦ 1 | false ↦ 0 ] ] ≤ 2
    by_cases true b = omega arith
    by_cases false true = omega arith
    by_cases false false = omega arith

-- the rule, by what the callee uses
keyed_none : (Γ : Environment) (callee : Expr) (args : List Asked) (T : Table) (o : Option Dot) → dot_of callee ≡ o → keyed_of Γ callee ≡ None
    → kept (check_keyed_call Γ callee args) T ≡ record { res = ok tt; table = T }
unfolding check_keyed_call if_some kept keyed_of
keyed_none Γ callee args T None e q = rw e refl
keyed_none Γ callee args T (Some d) e q = rw (e, rw (keyed_of, e) at q) refl

keyed_dot : (Γ : Environment) (callee : Expr) (f : Field) (o : Option Dot) → dot_of callee ≡ o → keyed_of Γ callee ≡ Some f
    → (d : Dot) × (o ≡ Some d) × (keyed_field Γ d.base ≡ Some f)
unfolding keyed_of
keyed_dot Γ callee f None e q = absurd (let y : None ≡ Some f = rw (keyed_of, e) at q in let z : ◌≡◌ {A = ℕ} 0 1 = cc in omega arith)
keyed_dot Γ callee f (Some d) e q = (d, refl, rw (keyed_of, e) at q)

module _ (s S : List ℕ) (env : Env) (T : Table) (i : ℕ) (keyed : Option ℕ) (loaded : Loaded s S) (force : InForce S env) (h : AsksCall s S env T i keyed) where
  row : Row S grammar.Expr (suc (call_arg_count S i)) (suc i)
  row = (parts s S env T i loaded h.call).1

  uses : found_field s keyed ≡ keyed_of (env_of s T env) (expr_at s (suc i))
  unfolding keyed_of keyed_field state_field_of env_of
  uses = h.found

  pub no_keyed : keyed ≡ None → Does s (check_keyed_call (env_of s T env) (callee_at s i) (typings (env_of s T env) (args_at s S i))) T (Ok tt) T
  unfolding callee_at found_field done_of
  no_keyed e = record { gives = keyed_none _ _ _ T (dot_of (expr_at s (suc i))) refl (sym uses ∙ rw e refl) }

  module _ (field : ℕ) (e : keyed ≡ Some field) where
    -- the callee is a dot on the Map or Registry
    abbrev base : Expr
    base = expr_at s (suc (suc i))

    dot_told : (b : Bool) → eqb (kind_at S (suc i)) kinds.dot ≡ b → (b ≡ true) × (keyed_field (env_of s T env) base ≡ Some (field_at s field))
    unfolding found_field
    dot_told b q =
        let o : dot_of (expr_at s (suc i)) ≡ cond b (Some (record { base = base; name = name_at s S (suc i); nspan = nspan_at s S (suc i) })) None =
        rw (← q) (is_dot_at loaded (row_first row)) in
        let d = keyed_dot (env_of s T env) (expr_at s (suc i)) (field_at s field) _ o (sym uses ∙ rw e refl) in
        by_cases b d.0 d.1 d.2
      where
        by_cases : (b : Bool) (d : Dot) → cond b (Some (record { base = base; name = name_at s S (suc i); nspan = nspan_at s S (suc i) })) None ≡ Some d
            → keyed_field (env_of s T env) d.base ≡ Some (field_at s field) → (b ≡ true) × (keyed_field (env_of s T env) base ≡ Some (field_at s field))
        by_cases true d y z = (refl, let w : d ≡ record { base = base; name = name_at s S (suc i); nspan = nspan_at s S (suc i) } = cc in rw w at z)
        by_cases false d y z = absurd (let w : ◌≡◌ {A = ℕ} 0 1 = cc in omega arith)

    told : (eqb (kind_at S (suc i)) kinds.dot ≡ true) × (keyed_field (env_of s T env) base ≡ Some (field_at s field))
    told = dot_told _ refl

    pub by_method : AsksMethod S T i
    by_method = record { call = h.call; dot = eqb-true _ _ told.0 }

    abbrev rest : Rule Unit
    rest = keys_rule (env_of s T env) (field_at s field) 0 (wants_of (method_at s S i)) (args_at s S i)

    -- the rule: the amount, then the keys
    opened : kept (check_keyed_call (env_of s T env) (callee_at s i) (typings (env_of s T env) (args_at s S i))) T
        ≡ kept (amount_rule (env_of s T env) (method_at s S i) (args_at s S i) >>= λ _. rest) T
    unfolding check_keyed_call callee_at method_at amount_rule keys_rule if_some ◌>>◌
    opened =
        rw (is_dot_at loaded (row_first row), told.0, told.1, wants_are (name_at s S (suc i)) (field_at s field).ty) refl

    module _ (d : Result Unit Refusal) (U : Table) (k : Does s (amount_rule (env_of s T env) (method_at s S i) (args_at s S i)) T d U) where
      pub amount_ends : (r : Refusal) → d ≡ Err r → Does s (check_keyed_call (env_of s T env) (callee_at s i) (typings (env_of s T env) (args_at s S i))) T (Err r) U
      unfolding done_of
      amount_ends r f = record { gives = opened ∙ then_refused _ _ T U (refusal_of s r) (stopped s _ T d U k.gives r f) }

      module _ (f : d ≡ Ok tt) (x : Name) (w at m : ℕ) (ex : x ≡ name_at s S (i + 1)) (ew : w ≡ wants_of x) (ea : at ≡ end_at S (i + 1)) (em : m ≡ call_arg_count S i) where
        on : Onward s S env T U
        unfolding args_at
        on = onward s S env T U _ tt loaded force h.call.asks.room (off_amount loaded (env_of s T env) (method_at s S i) (row_rest row) (no_value_next loaded (row_first row))) (did s _ T d U k.gives f)

        behind : at ≡ end_at S (suc i)
        behind = ea ∙ ap (end_at S) (add-one i)

        wants : w ≡ wants_of (name_at s S (suc i))
        wants = ew ∙ ap wants_of (ex ∙ ap (name_at s S) (add-one i))

        pub keys_asked : AsksKeys S U field w m at
        keys_asked =
            let o = rw e at h.kind in
            record {
              room = on.room;
              row = rw (em, behind) (row_rest row);
              no_value = rw behind (no_value_next loaded (row_first row));
              within = o.0;
              kind = o.1;
              few = rw wants (wants_few (name_at s S (suc i)));
            }

        pub keys_below : (τ : ℕ) → 10 * (line_count S - i) + 1 ≡ τ → 10 * (line_count S - at) + 8 < τ
        keys_below τ q = omega (arith, behind, (row_first row).after, h.call.asks.here.within, q)

        pub keys_done : (r : Result Unit Refusal) (W : Table) → Does s (keys_rule (env_of s U env) (field_at s field) 0 w (exprs_at s m at)) U r W
            → Does s (check_keyed_call (env_of s T env) (callee_at s i) (typings (env_of s T env) (args_at s S i))) T r W
        unfolding args_at method_at
        keys_done r W g =
            record { gives = opened ∙ then_ok _ _ T U tt _ (did s _ T d U k.gives f) (rw (← wants, ← em, ← behind, ← on.same) g.gives) }

-- ------------------------------------------------------------ check_amount

module _ (s S : List ℕ) (env : Env) (T : Table) (i : ℕ) (loaded : Loaded s S) (force : InForce S env) (h : AsksMethod S T i) where
  all : Row S grammar.Expr (suc (call_arg_count S i)) (suc i)
  all = (parts s S env T i loaded h.call).1

  module _ (m : ℕ) (em : m ≡ call_arg_count S i) where
    -- with fewer than two arguments there is no amount
    few_args : (k : ℕ) → k < 2 → (r : Row S grammar.Expr k (end_at S (suc i))) → (b : Bool)
        → kept (provided b (check_amount (name_at s S (suc i)) (typings (env_of s T env) (exprs_at s k (end_at S (suc i)))))) T ≡ record { res = ok tt; table = T }
    unfolding exprs_at take_nodes exprs_of typings check_amount provided kept
    few_args zero l r true = refl
    few_args zero l r false = refl
    few_args (suc zero) l r true = rw (exprs_next loaded 0 (end_at S (suc i)) (row_first r).within) refl
    few_args (suc zero) l r false = refl
    few_args (suc (suc k)) l r b = absurd (omega arith)

    pub no_amount : m < 2 → Does s (amount_rule (env_of s T env) (method_at s S i) (args_at s S i)) T (Ok tt) T
    unfolding amount_rule method_at args_at done_of
    no_amount l = record { gives = few_args (call_arg_count S i) (omega arith) (row_rest all) (is_one (name_at s S (suc i)) ("credit" ∷ "debit" ∷ [])) }

    module _ (x : Name) (b : Bool) (ex : x ≡ name_at s S (i + 1)) (eb : b ≡ is_one x ("credit" ∷ "debit" ∷ [])) where
      method : is_one (name_at s S (suc i)) ("credit" ∷ "debit" ∷ []) ≡ b
      method = sym (eb ∙ ap (λ y. is_one y ("credit" ∷ "debit" ∷ [])) (ex ∙ ap (name_at s S) (add-one i)))

      pub no_move : not b ≡ true → Does s (amount_rule (env_of s T env) (method_at s S i) (args_at s S i)) T (Ok tt) T
      unfolding amount_rule method_at provided done_of kept
      no_move n = record { gives = rw (method, not-true b n) refl }

      module _ (g : 2 ≤ m) (n : not b ≡ false) (y arg : ℕ) (ey : y ≡ end_at S (i + 1)) (ea : arg ≡ end_at S y) where
        rest' : Row S grammar.Expr (suc (suc (m - 2))) (end_at S (suc i))
        rest' = rw (let z : suc (suc (m - 2)) ≡ call_arg_count S i = omega arith in z) (row_rest all)

        arg_is : arg ≡ end_at S (end_at S (suc i))
        arg_is = ea ∙ ap (end_at S) (ey ∙ ap (end_at S) (add-one i))

        two : args_at s S i ≡ more (expr_at s (end_at S (suc i))) (more (expr_at s arg) (exprs_at s (m - 2) (end_at S arg)))
        unfolding args_at
        two =
            ap (λ z. exprs_at s z (end_at S (suc i))) (let z : call_arg_count S i ≡ suc (suc (m - 2)) = omega arith in z)
            ∙ exprs_next loaded (suc (m - 2)) _ (row_first rest').within
            ∙ rw (exprs_next loaded (m - 2) _ (row_first (row_rest rest')).within, arg_is) refl

        pub amount_asks : Asks S T arg
        amount_asks = record { room = h.call.asks.room; here = rw arg_is (row_first (row_rest rest')) }

        pub amount_falls : (τ : ℕ) → 10 * (line_count S - i) + 0 ≡ τ → 10 * (line_count S - arg) + 7 < τ
        amount_falls τ q = omega (arith, arg_is, (row_first all).after, (row_first rest').after, h.call.asks.here.within, q)

        module _ (a : Result Ty Refusal) (U : Table) (k : Types s (ty_of (env_of s T env) (expr_at s arg)) T a U) where
          pub amount_no : (r : Refusal) → a ≡ Err r → Does s (amount_rule (env_of s T env) (method_at s S i) (args_at s S i)) T (Err r) U
          unfolding amount_rule method_at provided typings check_amount asked ask_of ty_of done_of typed_of
          amount_no r e =
              record { gives = rw (method, not-false b n, two) (then_refused (ty_of (env_of s T env) (expr_at s arg)) _ T U (refusal_of s r) (k.gives ∙ rw e refl)) }

          dot-name : (dot_at s (i + 1)).name ≡ name_at s S (suc i)
          unfolding dot_at
          dot-name = rw (add-one i, dot_at, is_dot_at loaded (row_first all), eq-eqb _ _ h.dot) refl

          pub amount_ok : (c : Ty) (r : Result Unit Refusal) → a ≡ Ok c → JudgesAmount (i + 1) arg c r → Does s (amount_rule (env_of s T env) (method_at s S i) (args_at s S i)) T r U
          unfolding amount_rule method_at provided typings check_amount asked ask_of ty_of
          amount_ok c r e j =
              record {
                gives =
                    rw (method, not-false b n, two)
                    (then_ok (ty_of (env_of s T env) (expr_at s arg)) _ T U c _ (gave s _ T a U k c e)
                    (rw dot-name at ((j.judged s).answers U)));
              }

-- ------------------------------------------------------------ check_keys

-- the declared types that are still wanted
wanted_next : (ty : Type') (index wants : ℕ) → index < wants → wants ≤ 2 → wanted ty index wants ≡ declared_arg ty index ∷ wanted ty (index + 1) wants
unfolding wanted
wanted_next ty zero (suc zero) h l = refl
wanted_next ty zero (suc (suc zero)) h l = refl
wanted_next ty (suc zero) (suc (suc zero)) h l = refl
wanted_next ty index zero h l = absurd (omega arith)
wanted_next ty (suc index) (suc zero) h l = absurd (omega arith)
wanted_next ty (suc (suc index)) (suc (suc wants)) h l = absurd (omega arith)
wanted_next ty zero (suc (suc (suc wants))) h l = absurd (omega arith)
wanted_next ty (suc zero) (suc (suc (suc wants))) h l = absurd (omega arith)

drop_none : {A : Type 0} (k : ℕ) → ◌≡◌ {A = List A} (drop k []) []
drop_none zero = refl
drop_none (suc k) = refl

wanted_none : (ty : Type') (index wants : ℕ) → wants ≤ index → wants ≤ 2 → wanted ty index wants ≡ []
unfolding wanted
wanted_none ty index zero h l = drop_none index
wanted_none ty zero (suc wants) h l = absurd (omega arith)
wanted_none ty (suc index) (suc zero) h l = drop_none index
wanted_none ty (suc zero) (suc (suc wants)) h l = absurd (omega arith)
wanted_none ty (suc (suc index)) (suc (suc zero)) h l = drop_none index
wanted_none ty (suc (suc index)) (suc (suc (suc wants))) h l = absurd (omega arith)

none_wanted : (Γ : Environment) (f : Name) (key : Bool) (as' : List Asked) (T : Table) → kept (check_keys Γ f key as' []) T ≡ record { res = ok tt; table = T }
unfolding check_keys kept
none_wanted Γ f key [] T = refl
none_wanted Γ f key (a ∷ as') T = refl

-- the first argument is typed and judged, then the others
module _ {s S : List ℕ} {env : Env} {T : Table} {field index wants left at : ℕ} (loaded : Loaded s S) (force : InForce S env) (h : AsksKeys S T field wants (suc left) at) (l : index < wants) where
  abbrev Γ : Environment
  Γ = env_of s T env

  type_at_lem : TypeBehind s S field
  type_at_lem = type_behind kinds.field s S loaded (Some field) field refl (h.within, h.kind) (omega arith) (omega arith)

  list : exprs_at s (suc left) at ≡ more (expr_at s at) (exprs_at s left (end_at S at))
  list = exprs_next loaded left at (row_first h.row).within

  module _ {a : Result Ty Refusal} {U : Table} (k : Types s (ty_of Γ (expr_at s at)) T a U) where
    first_no : {x : Refusal} → a ≡ Err x → Does s (keys_rule Γ (field_at s field) index wants (exprs_at s (suc left) at)) T (Err x) U
    unfolding keys_rule typings check_keys asked ask_of ty_of typed_of done_of
    first_no {x} e =
        record {
          gives =
              rw (list, wanted_next (field_at s field).ty index wants l h.few)
              (then_refused (ty_of Γ (expr_at s at)) _ T U (refusal_of s x) (k.gives ∙ rw e refl));
        }

    module _ (c want : Ty) (d : Result Unit Refusal) (e : a ≡ Ok c) (w : want ≡ declared_arg (type_at s (field + 1)) index) (j : JudgesKey s env field (eqb index 0) at want c d) where
      abbrev judge : Rule Unit
      judge = judge_key Γ (field_at s field).name (eqb index 0) (expr_at s at) (declared_arg (field_at s field).ty index) c

      abbrev others : Rule Unit
      others = check_keys Γ (field_at s field).name false (typings Γ (exprs_at s left (end_at S at))) (wanted (field_at s field).ty (index + 1) wants)

      judged : kept judge U ≡ record { res = done_of s d; table = U }
      unfolding judge_key is_name_param env_of
      judged = rw (type_at_lem.field, ← add-one field, ← w) (j.answers U)

      went : (o : Kept Unit) → kept (judge >>= λ _. others) U ≡ o → kept (keys_rule Γ (field_at s field) index wants (exprs_at s (suc left) at)) T ≡ o
      unfolding keys_rule typings check_keys asked ask_of ty_of ◌>>◌
      went o q =
          rw (list, wanted_next (field_at s field).ty index wants l h.few)
          (then_ok (ty_of Γ (expr_at s at)) _ T U c o (gave s _ T a U k c e) q)

      first_wrong : {x : Refusal} → d ≡ Err x → Does s (keys_rule Γ (field_at s field) index wants (exprs_at s (suc left) at)) T (Err x) U
      unfolding done_of
      first_wrong {x} f = record { gives = went _ (then_refused judge (λ _. others) U U (refusal_of s x) (stopped s _ U d U judged x f)) }

      module _ (f : d ≡ Ok tt) where
        on_keys : Onward s S env T U
        on_keys = onward s S env T U _ _ loaded force h.room (off_type loaded (env_of s T env) (row_first h.row) h.no_value) (gave s _ T a U k c e)

        others_ask : AsksKeys S U field wants left (end_at S at)
        others_ask = record { room = on_keys.room; row = row_rest h.row; no_value = no_value_next loaded (row_first h.row); within = h.within; kind = h.kind; few = h.few }

        others_do : {r : Result Unit Refusal} {W : Table} → Does s (keys_rule (env_of s U env) (field_at s field) (index + 1) wants (exprs_at s left (end_at S at))) U r W
            → Does s (keys_rule Γ (field_at s field) index wants (exprs_at s (suc left) at)) T r W
        unfolding keys_rule
        others_do {r} {W} q =
            let g : kept others U ≡ record { res = done_of s r; table = W } = rw (ne_eqb (index + 1) 0 (omega arith), on_keys.same) at q.gives in
            record { gives = went _ (then_ok judge (λ _. others) U U tt _ (did s _ U d U judged f) g) }

-- No argument before these was refused: q goes over the places up to wants, r over the arguments. The table was T₀ before and is T now.
pub record KeysLeft (s S : List ℕ) (env : Env) (T₀ : Table) (field wants left at : ℕ) (q : Range ℕ) (r : Records) (T : Table) : Type 0 where
  pub asks : AsksKeys S T field wants r.left r.at
  pub lines : r.lines.now ≡ S
  pub until : q.end ≡ wants
  pub from : at ≤ r.at
  pub rest : (d : Result Unit Refusal) (W : Table) → Does s (keys_rule (env_of s T env) (field_at s field) q.start wants (exprs_at s r.left r.at)) T d W
      → Does s (keys_rule (env_of s T₀ env) (field_at s field) 0 wants (exprs_at s left at)) T₀ d W

pub keys_start : (s S : List ℕ) (env : Env) (T : Table) (field wants left at : ℕ) (q : Range ℕ) (r : Records) → AsksKeys S T field wants left at → q ≡ record { start = 0; end = wants } → r.lines.now ≡ S → r.left ≡ left → r.at ≡ at
    → KeysLeft s S env T field wants left at q r T
keys_start s S env T field wants left at q r h e u v w =
    record {
      asks = rw (v, w) h;
      lines = u;
      until = ap (λ x. x.end) e;
      from = omega (arith, w);
      rest = λ d W g. rw (e, v, w) at g;
    }

module _ {s S : List ℕ} {env : Env} {T₀ : Table} {field wants left at : ℕ} (loaded : Loaded s S) (force : InForce S env) {q : Range ℕ} {r : Records} {T : Table} (w : KeysLeft s S env T₀ field wants left at q r T) where
  abbrev Whole : Result Unit Refusal → Table → Type 0
  Whole d W = Does s (keys_rule (env_of s T₀ env) (field_at s field) 0 wants (exprs_at s left at)) T₀ d W

  no_type : wants ≤ q.start → Whole (Ok tt) T
  unfolding keys_rule done_of
  no_type h = w.rest _ _ (record { gives = rw (wanted_none (field_at s field).ty q.start wants h w.asks.few) (none_wanted (env_of s T env) (field_at s field).name (eqb q.start 0) (typings (env_of s T env) (exprs_at s r.left r.at)) T) })

  no_arg : r.left ≡ 0 → Whole (Ok tt) T
  unfolding keys_rule exprs_at take_nodes exprs_of typings check_keys kept done_of
  no_arg h = w.rest _ _ (record { gives = rw h refl })

  pub keys_over : ((u : Range ℕ) × nat_range_steps q None u) ⊎ ((u : Records) × NextOf r None u) → Whole (Ok tt) T
  keys_over (inl h) = no_type (omega (arith, h.1, w.until))
  keys_over (inr h) = no_arg h.1.0

  module _ {index arg : ℕ} (p : Range ℕ) {t : Records} (y : ((p.end ≡ q.end) × ((0 < q.end - q.start) × (index ≡ q.start) × (p.start ≡ q.start + 1))) × Steps r arg t) where
    abbrev n : Steps r arg t
    n = y.1

    pub keys_wanted : index < wants
    keys_wanted = omega (arith, y.0.1.0, y.0.1.1, w.until)

    pub keys_index : index < 2
    keys_index = omega (arith, keys_wanted, w.asks.few)

    asks : AsksKeys S T field wants (suc t.left) arg
    asks = rw (← n.left, n.here) w.asks

    pub keys_arg : Here S grammar.Expr arg
    keys_arg = row_first asks.row

    pub keys_first : Asks S T arg
    keys_first = record { room = w.asks.room; here = keys_arg }

    pub keys_falls : (τ : ℕ) → 10 * (line_count S - at) + 8 ≡ τ → 10 * (line_count S - arg) + 7 < τ
    keys_falls τ e = omega (arith, w.from, n.here, e)

    pub keys_type : Here S grammar.Ty (field + 1)
    keys_type = rw (add-one field) (type_at_lem loaded force asks keys_wanted).typed

    whole : {d : Result Unit Refusal} {W : Table} → Does s (keys_rule (env_of s T env) (field_at s field) index wants (exprs_at s (suc t.left) arg)) T d W → Whole d W
    whole {d} {W} g = w.rest d W (rw (n.left, ← n.here, ← y.0.1.1) g)

    module _ {a : Result Ty Refusal} {U : Table} (k : Types s (ty_of (env_of s T env) (expr_at s arg)) T a U) where
      pub keys_no : {x : Refusal} → a ≡ Err x → Whole (Err x) U
      keys_no e = whole (first_no loaded force asks keys_wanted k e)

      module _ {c want : Ty} {d : Result Unit Refusal} (e : a ≡ Ok c) (v : want ≡ declared_arg (type_at s (field + 1)) index) (j : JudgesKey s env field (eqb index 0) arg want c d) where
        pub keys_wrong : {x : Refusal} → d ≡ Err x → Whole (Err x) U
        keys_wrong f = whole (first_wrong loaded force asks keys_wanted k _ _ _ e v j f)

        pub keys_next : d ≡ Ok tt → KeysLeft s S env T₀ field wants left at p t U
        keys_next f =
            let b : t.at ≡ end_at S arg = n.behind ∙ rw (w.lines, n.here) refl in
            let i : p.start ≡ index + 1 = y.0.1.2 ∙ rw y.0.1.1 refl in
            record {
              asks = rw b (others_ask loaded force asks keys_wanted k _ _ _ e v j f);
              lines = n.lines ∙ w.lines;
              until = y.0.0 ∙ w.until;
              from = omega (arith, w.from, n.here, b, keys_arg.after);
              rest = λ o W g. whole (others_do loaded force asks keys_wanted k _ _ _ e v j f (rw (i, b) at g));
            }

pub ruleset laws_keyed_call = (rules, loaded_sheet, types-length, does_length, no_keyed, by_method, amount_ends, keys_asked, keys_below, keys_done)

pub ruleset laws_amount = (rules, loaded_sheet, types-length, does_length, no_amount, no_move, amount_asks, amount_falls, amount_no, amount_ok)
