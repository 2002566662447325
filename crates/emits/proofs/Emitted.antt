-- `emit` statements: what each return and each call needs. Assumes nothing.
use mathlib.Core.Logic.{◌⊎◌, inl, inr}
use mathlib.Core.Path.{◌≡◌, refl, sym, ap, ◌∙◌}
use mathlib.Core.List.{List, [], ◌∷◌, zip, zip_with}
use mathlib.Core.Bool.{Bool, true, false, not, ◌&&◌, ◌||◌, or-false}
use Prim.Native.Nat.{ℕ, suc, ◌+◌, ◌<◌}
use native.Mathlib.Numerals.{add-one}
use native.Mathlib.Omega.{arith}
use mir.Syntax.{w64}
use mir.Val.{Fits}
use denote.Enum.Bare.{sameb}
use lib.ListN.{length}
use Rattle.std.specs.Prelude.{Option, Some, None, Result, Ok, Err}
use Rattle.grammar.specs.Grammar as grammar
use Rattle.sheet.specs.Scratch.{kind_at, end_at, name_at, line_count, emit_arg_count, param_count}
use Rattle.sheet.specs.Records.{Steps, NextOf}
use Rattle.sheet.specs.declared.records.Records.{Records}
use Rattle.sheet.specs.Tree.{take_nodes}
use Rattle.rules.specs.Text.{Name}
use Rattle.rules.specs.Ast.{Expr, Exprs, list, span, exprs_of}
use Rattle.rules.specs.Asking.{ok, Rule, ◌>>=◌, expect, if_some, for_each}
use Rattle.rules.specs.contracts.ty.Ty.{the_type}
use Rattle.rules.specs.declared.ty.Ty.{Ty}
use Rattle.rules.specs.declared.ty.Ty.TheVariants.{Address, Name as TName, Collection}
use Rattle.rules.specs.Kept.{Table, kept}
use Rattle.rules.specs.Types.{is_ty, one_word, ty_of_decl}
use Rattle.rules.specs.Typing.{Env as Environment, ty_of, typings, ask_each, is_name_param}
use Rattle.rules.specs.Statements.{emit_mismatch, emit_text, check_emit_field, check_emit_fields}
use Rattle.rules.specs.Standing.{event_at, expr_at, exprs_at, param_at, params_at, type_at, Here, Row, Loaded}
use Rattle.rules.proofs.Parts.{parts}
use Rattle.rules.proofs.Records.{event_at_lem, param_at_lem, no_params, group}
use Rattle.rules.proofs.Rows as rows
use Rattle.rules.proofs.Rows.{exprs}
use Rattle.rules.proofs.Same.{told_ty}
use Rattle.rules.proofs.Standing.{stands, row_first, row_rest, loaded_sheet}
use Rattle.refusals.specs.Refusal.{refusal_of, done_of}
use Rattle.refusals.specs.declared.refusal.Refusal.{Refusal}
use Rattle.refusals.specs.declared.refusal.Refusal.TheVariants.{EmitField}
use Rattle.refusals.proofs.Answers.{expects}
use Rattle.env.specs.Force.{env_of, InForce}
use Rattle.env.specs.declared.env.Env.{Env}
use Rattle.typing.specs.Asks.{Asks, NoValue, AsksAll, KindIn, Types, Does}
use Rattle.typing.proofs.Arguments.{said_not, each_typed}
use Rattle.typing.proofs.Calls.{did}
use Rattle.typing.proofs.Doing.{typed_then, not_typed, does_then, does_cut, does_nothing}
use Rattle.typing.proofs.Onward.{Onward, onward, onward_here, onward_then, no_value_below, no_value_next, off_judged, off_each}
use Rattle.emits.specs.Emit.{emit_rule, fields_rule, fields_at, FieldIn, Mismatches}
use Rattle.refusals.specs.Answers.{Answers, expected}
use Rattle.lookups.specs.Event.{found_event, EventNamed}
use Rattle.lookups.specs.Lines.{KindAt}
use Rattle.grammar.specs.Kinds as kinds

-- ------------------------------------------------------------ mismatch and judge_field

-- whether the type wanted, and the type got, is a name
module _ (want got : Ty) (b v u : Bool) (k : v ≡ sameb the_type want TName) (l : u ≡ sameb the_type got TName) where
  pub mismatch_name : v ≡ true → Mismatches want got b (not u || not b)
  unfolding emit_mismatch
  mismatch_name e = record { tests = λ Γ arg n. rw (emit_mismatch, ← told_ty want TName v k, e, ← told_ty got TName u l, ← n) refl }

  pub mismatch_other : (x y z w : Bool) → v ≡ false → x ≡ sameb the_type got Collection → y ≡ sameb the_type want Collection → z ≡ sameb the_type got Address → w ≡ one_word want
      → Mismatches want got b (((u || x) || y) || (z && w))
  unfolding emit_mismatch is_ty
  mismatch_other x y z w e f g h i =
      record {
        tests = λ Γ arg n.
            rw (emit_mismatch, ← told_ty want TName v k, e, ← told_ty got TName u l, ← told_ty got Collection x f, ← told_ty want Collection y g, ← told_ty got Address z h, ← i, or-false) refl;
      }

-- ------------------------------------------------------------ check_field

module _ (s S : List ℕ) (env : Env) (T : Table) (arg param : ℕ) (loaded : Loaded s S) (force : InForce S env) (h : FieldIn S T arg param) where
  typed : (param_at s param ≡ record { name = name_at s S param; ty = type_at s (suc param) }) × Here S grammar.Ty (suc param)
  typed = param_at_lem loaded h.other.within (omega (arith, h.other.kind.0, h.other.kind.1))

  pub field_asks : Asks S T arg
  field_asks = record { room = h.room; here = h.one }

  pub field_type : Here S grammar.Ty (param + 1)
  field_type = rw (add-one param) typed.1

  pub field_arg : Here S grammar.Expr arg
  field_arg = h.one

  pub field_fits : length S < 18446744073709551616 → Fits w64 (param + 1)
  field_fits l = record { fits = omega (arith, typed.1.within) }

  module _ (a : Result Ty Refusal) (U : Table) (k : Types s (ty_of (env_of s T env) (expr_at s arg)) T a U) where
    pub field_no : (r : Refusal) → a ≡ Err r → Does s (check_emit_field (env_of s T env) (expr_at s arg) (param_at s param)) T (Err r) U
    unfolding check_emit_field
    field_no r e = not_typed s (ty_of (env_of s T env) (expr_at s arg)) _ T a U k r e

    module _ (got want : Ty) (n m : Bool) (e : a ≡ Ok got) (w : want ≡ ty_of_decl (type_at s (param + 1))) (en : n ≡ is_name_param (env_of s [] env) (expr_at s arg)) (j : Mismatches want got n m) where
      wanted : want ≡ ty_of_decl (param_at s param).ty
      wanted =
          let q : (param_at s param).ty ≡ type_at s (param + 1) = ap (λ p. p.ty) typed.0 ∙ rw (add-one param) refl in
          w ∙ sym (ap ty_of_decl q)

      straight : n ≡ is_name_param (env_of s T env) (expr_at s arg)
      unfolding is_name_param env_of
      straight = en

      judged : (r : Result Unit Refusal) → r ≡ expected (not m) (EmitField arg param got)
          → Answers (expect (not (emit_mismatch (env_of s T env) (expr_at s arg) (ty_of_decl (param_at s param).ty) got)) 43 (span (expr_at s arg)) (emit_text (param_at s param) got)) (done_of s r)
      unfolding refusal_of
      judged r x = rw (← wanted, ← j.tests (env_of s T env) (expr_at s arg) straight) (expects s (not m) (EmitField arg param got) r x)

      pub field_ok : (r : Result Unit Refusal) → r ≡ expected (not m) (EmitField arg param got) → Does s (check_emit_field (env_of s T env) (expr_at s arg) (param_at s param)) T r U
      unfolding check_emit_field
      field_ok r x = typed_then s (ty_of (env_of s T env) (expr_at s arg)) _ T a U k got r e (judged r x)

-- ------------------------------------------------------------ check_fields

no_field : (Γ : Environment) (es : List Expr) (T : Table) → kept (fields_rule Γ es []) T ≡ record { res = ok tt; table = T }
unfolding fields_rule zip zip_with for_each kept
no_field Γ [] T = refl
no_field Γ (e ∷ es) T = refl

-- no pair before these refuses: the arguments that a goes over, side by side with the parameters that p goes over; the table was T₀ before and is T now
pub record Pairs (s S : List ℕ) (env : Env) (T₀ : Table) (i event : ℕ) (a p : Records) (T : Table) : Type 0 where
  pub loaded : Loaded s S
  pub force : InForce S env
  pub on : Onward s S env T₀ T
  pub arg_lines : a.lines.now ≡ S
  pub param_lines : p.lines.now ≡ S
  pub these : Row S grammar.Expr a.left a.at
  pub no_value : NoValue S a.at
  pub those : Row S grammar.Param p.left p.at
  pub rest : (r : Result Unit Refusal) (W : Table) → Does s (fields_rule (env_of s T₀ env) (list (exprs_at s a.left a.at)) (params_at s p.left p.at)) T r W
      → Does s (fields_at s S (env_of s T₀ env) i event) T₀ r W

module _ (s S : List ℕ) (T : Table) (i : ℕ) (loaded : Loaded s S) (h : KindIn kinds.emit S T i) where
  emit_row : Row S grammar.Expr (emit_arg_count S i) (suc i)
  emit_row =
      let t = stands loaded i h.within in
      let p = parts t.line kinds.emit t.parted (sym t.says.kind ∙ h.kind) in
      let o = group loaded h.within grammar.Expr p.0 p.1 in
      rw o.3 o.2

  args_no_value : NoValue S (suc i)
  args_no_value = no_value_below S i (omega (arith, h.kind))

  pub pairs_start : (env : Env) (event : ℕ) (a p : Records) → InForce S env → KindAt kinds.event S event
      → a.lines.now ≡ S → a.left ≡ emit_arg_count S i → a.at ≡ i + 1 → p.lines.now ≡ S → p.left ≡ param_count S event → p.at ≡ event + 1
      → Pairs s S env T i event a p T
  pairs_start env event a p f t u v w u' v' w' =
      record {
        loaded = loaded;
        force = f;
        on = onward_here s S env T h.room;
        arg_lines = u;
        param_lines = u';
        these = rw (v, w, add-one i) emit_row;
        no_value = rw (w, add-one i) args_no_value;
        those = rw (v', w', add-one event) (event_at_lem loaded t.within t.kind).1;
        rest = λ r W j. rw (v, w, add-one i, v', w', add-one event) at j;
      }

module _ (s S : List ℕ) (env : Env) (T₀ : Table) (i event : ℕ) (a p : Records) (T : Table) (g : Pairs s S env T₀ i event a p T) where
  abbrev Done : Result Unit Refusal → Table → Type 0
  Done r W = Does s (fields_at s S (env_of s T₀ env) i event) T₀ r W

  no_args : a.left ≡ 0 → Done (Ok tt) T
  unfolding fields_rule zip zip_with for_each list exprs_at take_nodes exprs_of
  no_args e = g.rest _ _ (rw e (does_nothing s T))

  no_params_left : p.left ≡ 0 → Done (Ok tt) T
  unfolding done_of
  no_params_left e = g.rest _ _ (rw (e, no_params s p.at) (record { gives = no_field (env_of s T₀ env) (list (exprs_at s a.left a.at)) T }))

  -- no argument is left, or no parameter
  pub pairs_over : ((u : Records) × NextOf a None u) ⊎ ((u : Records) × NextOf p None u) → Done (Ok tt) T
  pairs_over (inl h) = no_args h.1.0
  pairs_over (inr h) = no_params_left h.1.0

  module _ (arg param : ℕ) (b q : Records) (h : Steps a arg b) (l : Steps p param q) where
    these : Row S grammar.Expr (suc b.left) arg
    these = rw (← h.left, h.here) g.these

    no_value : NoValue S arg
    no_value = rw h.here g.no_value

    those : Row S grammar.Param (suc q.left) param
    those = rw (← l.left, l.here) g.those

    pub pairs_first : FieldIn S T arg param
    pairs_first = record { room = g.on.room; one = row_first these; other = row_first those }

    -- the first pair, and those behind it
    opened : (r : Result Unit Refusal) (W : Table)
        → Does s (check_emit_field (env_of s T₀ env) (expr_at s arg) (param_at s param) >>= λ _. fields_rule (env_of s T₀ env) (list (exprs_at s b.left (end_at S arg))) (params_at s q.left (end_at S param))) T r W → Done r W
    unfolding fields_rule zip zip_with for_each
    opened r W j =
        g.rest r W (rw (h.left, l.left, ← h.here, ← l.here, exprs.first g.loaded b.left (row_first these).within, rows.params.first g.loaded q.left (row_first those).within) j)

    module _ (d : Result Unit Refusal) (U : Table) (k : Does s (check_emit_field (env_of s T env) (expr_at s arg) (param_at s param)) T d U) where
      its : Does s (check_emit_field (env_of s T₀ env) (expr_at s arg) (param_at s param)) T d U
      its = rw g.on.same at k

      pub pairs_refused : (x : Refusal) → d ≡ Err x → Done (Err x) U
      pairs_refused x e = opened _ _ (does_cut s _ _ T d U its x e)

      module _ (e : d ≡ Ok tt) where
        on : Onward s S env T U
        unfolding check_emit_field
        on = onward s S env T U (check_emit_field (env_of s T env) (expr_at s arg) (param_at s param)) tt g.loaded g.force g.on.room (off_judged g.loaded (env_of s T env) (row_first these) no_value _ _ _ _) (did s _ T d U k.gives e)

        pub pairs_onward : Pairs s S env T₀ i event b q U
        pairs_onward =
            let m : b.at ≡ end_at S arg = h.behind ∙ rw (g.arg_lines, h.here) refl in
            let n : q.at ≡ end_at S param = l.behind ∙ rw (g.param_lines, l.here) refl in
            record {
              loaded = g.loaded;
              force = g.force;
              on = onward_then g.on on;
              arg_lines = h.lines ∙ g.arg_lines;
              param_lines = l.lines ∙ g.param_lines;
              these = rw m (row_rest these);
              no_value = rw m (no_value_next g.loaded (row_first these));
              those = rw n (row_rest those);
              rest = λ r W x. opened r W (does_then s _ _ T d U its e r W (rw (m, n) at x));
            }

-- ------------------------------------------------------------ check_emit_fields and check_emit

module _ (s S : List ℕ) (env : Env) (T : Table) (i : ℕ) (loaded : Loaded s S) (force : InForce S env) (h : KindIn kinds.emit S T i) where
  abbrev es : Exprs
  es = exprs_at s (emit_arg_count S i) (suc i)

  abbrev Emits : Rule Unit
  Emits = check_emit_fields (env_of s T env) (name_at s S i) (list es)

  module _ (x : Name) (r : Option ℕ) (ex : x ≡ name_at s S i) (n : EventNamed s S x r) where
    pub no_event : r ≡ None → Does s Emits T (Ok tt) T
    unfolding check_emit_fields env_of if_some found_event done_of kept
    no_event e = record { gives = rw (← ex, ← n.found, e) refl }

    module _ (event : ℕ) (e : r ≡ Some event) where
      pub event_there : KindAt kinds.event S event
      event_there = let k : (event < line_count S) × (kind_at S event ≡ kinds.event) = rw e at n.kind in record { within = k.0; kind = k.1 }

      params : event_at s event ≡ record { name = name_at s S event; params = params_at s (param_count S event) (suc event) }
      params = (event_at_lem loaded event_there.within event_there.kind).0

      pub event_done : (d : Result Unit Refusal) (U : Table) → Does s (fields_at s S (env_of s T env) i event) T d U → Does s Emits T d U
      unfolding check_emit_fields fields_rule env_of if_some found_event
      event_done d U g = record { gives = rw (← ex, ← n.found, e, params) g.gives }

  module _ (m : ℕ) (em : m ≡ emit_arg_count S i) where
    pub emit_asks : AsksAll S T m (i + 1)
    emit_asks = record { room = h.room; row = rw (em, add-one i) (emit_row s S T i loaded h); no_value = rw (add-one i) (args_no_value s S T i loaded h) }

    module _ (d : Result Unit Refusal) (U : Table) (k : Does s (ask_each (typings (env_of s T env) (exprs_at s m (i + 1)))) T d U) where
      abbrev all : Rule Unit
      all = for_each (list es) (said_not (env_of s T env))

      asks : Does s all T d U
      asks = record { gives = each_typed (env_of s T env) es T ∙ rw (← em, ← add-one i) k.gives }

      pub emit_no : (r : Refusal) → d ≡ Err r → Does s (emit_rule (env_of s T env) (name_at s S i) (list es)) T (Err r) U
      unfolding emit_rule
      emit_no r e = does_cut s all Emits T d U asks r e

      module _ (e : d ≡ Ok tt) where
        on_emit : Onward s S env T U
        on_emit = onward s S env T U _ tt loaded force h.room (off_each loaded (env_of s T env) emit_asks.row emit_asks.no_value) (did s _ T d U k.gives e)

        pub emit_on : KindIn kinds.emit S U i
        emit_on = record { room = on_emit.room; within = h.within; kind = h.kind }

        pub emit_ok : (r : Result Unit Refusal) (W : Table) → Does s (check_emit_fields (env_of s U env) (name_at s S i) (list es)) U r W
            → Does s (emit_rule (env_of s T env) (name_at s S i) (list es)) T r W
        unfolding emit_rule
        emit_ok r W g = does_then s all Emits T d U asks e r W (rw (← on_emit.same) g)

pub ruleset laws_fields = (loaded_sheet, mismatch_name, mismatch_other)
