-- The arguments of an `emit` side by side with the event's parameters. Assumes nothing.
use mathlib.Core.Path.{◌≡◌, refl, ◌∙◌}
use mathlib.Core.Logic.{◌⊎◌, inl, inr}
use mathlib.Core.List.{List, [], ◌∷◌, zip}
use mathlib.Core.Bool.{Bool, true, false, ◌&&◌}
use Prim.Native.Nat.{ℕ, suc, ◌+◌, ◌<◌}
use native.Mathlib.Numerals.{add-one}
use native.Mathlib.Omega.{arith}
use mir.Syntax.{w64}
use mir.Val.{Fits}
use lib.ListN.{length}
use Rattle.std.specs.Prelude.{Option, None, is_some, Ok, Err}
use Rattle.sheet.specs.Records.{Steps, NextOf}
use Rattle.sheet.specs.declared.records.Records.{Records}
use Rattle.grammar.specs.Grammar as grammar
use Rattle.sheet.specs.Scratch.{kind_at, end_at, name_at, line_count, emit_arg_count, param_count}
use Rattle.sheet.specs.Tree.{take_nodes}
use Rattle.rules.specs.Text.{Name}
use Rattle.rules.specs.Ast.{Expr, exprs_of, list, type_name}
use Rattle.rules.specs.Asking.{Res, ok, Rule, ◌>>◌, for_each}
use Rattle.rules.specs.Types.{narrow_max}
use Rattle.rules.specs.Assets.{wraps, reaches, event_slot}
use Rattle.rules.specs.Standing.{expr_at, exprs_at, param_at, params_at, Loaded, Here, Row}
use Rattle.rules.proofs.Standing.{row_first, row_rest}
use Rattle.rules.proofs.Records.{named, emit_at, event_at_lem, param_at_lem, no_params}
use Rattle.rules.proofs.Rows.{exprs}
use Rattle.rules.proofs.Rows as rows
use Rattle.refusals.specs.Answers.{Answers}
use Rattle.refusals.specs.Refusal.{refusal_of, done_of}
use Rattle.refusals.specs.declared.refusal.Refusal.TheVariants.{ReachesEvent}
use Rattle.refusals.proofs.Answers.{gives, then_fine, then_refused}
use Rattle.lookups.proofs.Types.{type_name_lem}
use Rattle.lookups.specs.Lines.{KindAt}
use Rattle.wrapping.specs.Marks.{wrapped_names}
use Rattle.wrapping.specs.Reach.{reaches_each}
use Rattle.grammar.specs.Kinds as kinds
use Rattle.wrapping.proofs.Reaching.{unreached, reached}

-- args expressions from line arg on, side by side with params parameters from line param on
abbrev pub sides : (s S : List ℕ) (M : List Bool) → (k body i args arg params param : ℕ) → Rule Unit
sides s S M k body i args arg params param =
    reaches_each (wrapped_names s S M k body) (name_at s S i) (list (exprs_at s args arg)) (params_at s params param)

-- no pair before these refuses: the arguments that a goes over, side by side with the parameters that p goes over
pub record Emitting (s S : List ℕ) (M : List Bool) (k body i event : ℕ) (a p : Records) : Type 0 where
  pub loaded : Loaded s S
  pub within : i < line_count S
  pub arg_lines : a.lines.now ≡ S
  pub param_lines : p.lines.now ≡ S
  pub exprs : Row S grammar.Expr a.left a.at
  pub declared : Row S grammar.Param p.left p.at
  pub rest : (r : Res Unit) → Answers (sides s S M k body i a.left a.at p.left p.at) r
      → Answers (sides s S M k body i (emit_arg_count S i) (suc i) (param_count S event) (suc event)) r

pub emit_start : (s S : List ℕ) (M : List Bool) (k body i event args params : ℕ) (a p : Records) → Loaded s S → Here S grammar.Stmt i → kind_at S i ≡ kinds.emit → KindAt kinds.event S event → args ≡ emit_arg_count S i → params ≡ param_count S event
    → a.lines.now ≡ S → a.left ≡ args → a.at ≡ i + 1 → p.lines.now ≡ S → p.left ≡ params → p.at ≡ event + 1
    → Emitting s S M k body i event a p
emit_start s S M k body i event args params a p d h e t x y u v w u' v' w' =
    record {
      loaded = d;
      within = h.within;
      arg_lines = u;
      param_lines = u';
      exprs = rw (v, x, w, add-one i) (emit_at d h e).1;
      declared = rw (v', y, w', add-one event) (event_at_lem d t.within t.kind).1;
      rest = λ r j. rw (v, x, w, add-one i, v', y, w', add-one event) at j;
    }

each_none : (xs : List Name) (x : Name) (es : List Expr) → Answers (reaches_each xs x es []) (ok tt)
unfolding reaches_each for_each zip
each_none xs x [] = gives tt
each_none xs x (e ∷ es) = gives tt

module _ (s S : List ℕ) (M : List Bool) (k body i event : ℕ) (a p : Records) (g : Emitting s S M k body i event a p) where
  abbrev xs : List Name
  xs = wrapped_names s S M k body

  abbrev Judged : Res Unit → Type 0
  Judged r = Answers (sides s S M k body i (emit_arg_count S i) (suc i) (param_count S event) (suc event)) r

  abbrev d : Loaded s S
  d = g.loaded

  no_args : a.left ≡ 0 → Judged (done_of s (Ok tt))
  unfolding reaches_each for_each zip list exprs_at take_nodes exprs_of done_of
  no_args h = g.rest _ (rw h (gives tt))

  no_params_left : p.left ≡ 0 → Judged (done_of s (Ok tt))
  unfolding done_of
  no_params_left h = g.rest _ (rw (h, no_params s p.at) (each_none xs (name_at s S i) (list (exprs_at s a.left a.at))))

  -- no argument is left, or no parameter
  pub emit_over : ((u : Records) × NextOf a None u) ⊎ ((u : Records) × NextOf p None u) → Judged (done_of s (Ok tt))
  emit_over (inl h) = no_args h.1.0
  emit_over (inr h) = no_params_left h.1.0

  module _ (arg param : ℕ) (b q : Records) (h : Steps a arg b) (l : Steps p param q) where
    es : Row S grammar.Expr (suc b.left) arg
    es = rw (← h.left, h.here) g.exprs

    ps : Row S grammar.Param (suc q.left) param
    ps = rw (← l.left, l.here) g.declared

    pub emit_value : Here S grammar.Expr arg
    emit_value = row_first es

    pub param_fits : length S < 18446744073709551616 → Fits w64 (param + 1)
    param_fits n = record { fits = omega (arith, (row_first ps).within) }

    type-is : name_at s S (suc param) ≡ type_name (param_at s param).ty
    type-is =
        let x = row_first ps in
        let p = param_at_lem d x.within (omega (arith, x.kind.0, x.kind.1)) in
        type_name_lem s S (suc param) d ∙ rw p.0 refl

    -- the first pair, and those behind it
    sides_next : (r : Res Unit)
        → Answers (reaches xs (narrow_max (type_name (param_at s param).ty)) (expr_at s arg) (event_slot (name_at s S i)) >> sides s S M k body i b.left (end_at S arg) q.left (end_at S param)) r
        → Answers (sides s S M k body i a.left a.at p.left p.at) r
    unfolding reaches_each for_each zip ◌>>◌
    sides_next r j =
        rw (h.left, l.left, ← h.here, ← l.here, exprs.first d b.left (row_first es).within, rows.params.first d q.left (row_first ps).within) j

    module _ (y : Name) (w : Option ℕ) (v : Bool) (z : y ≡ name_at s S (param + 1)) (o : w ≡ narrow_max y) (j : v ≡ (is_some w && wraps xs (expr_at s arg))) where
      its_max : w ≡ narrow_max (type_name (param_at s param).ty)
      its_max = o ∙ rw (z, add-one param, type-is) refl

      pub emit-refused : v ≡ true → Judged (done_of s (Err (ReachesEvent i arg)))
      unfolding done_of refusal_of
      emit-refused f =
          g.rest _ (sides_next _ (rw (named d g.within)
          (then_refused _ _ _ (reached xs _ _ (event_slot (name_at s S i)) w v its_max j f))))

      pub emit_next : v ≡ false → Emitting s S M k body i event b q
      emit_next f =
          let m : b.at ≡ end_at S arg = h.behind ∙ rw (g.arg_lines, h.here) refl in
          let n : q.at ≡ end_at S param = l.behind ∙ rw (g.param_lines, l.here) refl in
          record {
            loaded = g.loaded;
            within = g.within;
            arg_lines = h.lines ∙ g.arg_lines;
            param_lines = l.lines ∙ g.param_lines;
            exprs = rw m (row_rest es);
            declared = rw n (row_rest ps);
            rest = λ r x. g.rest r (sides_next r (then_fine _ _ tt r (unreached xs _ _ (event_slot (name_at s S i)) w v its_max j f) (rw (m, n) at x)));
          }
