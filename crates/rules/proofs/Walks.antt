-- A loop over the lines of expressions: what is known of those that are left. Assumes nothing.
use mathlib.Core.Path.{◌≡◌, refl, sym, ap, ◌∙◌}
use mathlib.Core.List.{List}
use mathlib.Core.Bool.{Bool, false, ◌||◌, or_assoc}
use Prim.Native.Nat.{ℕ, suc, ◌+◌, ◌-◌, ◌<◌, ◌≤◌}
use native.Mathlib.Numerals.{add-one}
use native.Mathlib.Omega.{arith}
use Rattle.grammar.specs.Grammar as grammar
use Rattle.sheet.specs.Scratch.{kind_at, end_at, call_arg_count}
use Rattle.rules.specs.Ast.{Expr, Exprs, nil, more}
use Rattle.rules.specs.Standing.{expr_at, exprs_at, Loaded, Here}
use Rattle.rules.proofs.Forest.{joined, parts_of, Left, At, left_one, left_over, left_at_lem, left_args}
use Rattle.grammar.specs.Kinds as kinds

-- what is gathered of some expressions and of others behind them
pub all_joined : {A : Type 0} (op : A → A → A) (none : A) (f : Expr → A) (g : Exprs → A) → ((a : A) → op none a ≡ a) → ((a b c : A) → op (op a b) c ≡ op a (op b c))
    → g nil ≡ none → ((e : Expr) (es : Exprs) → g (more e es) ≡ op (f e) (g es)) → (es fs : Exprs) → g (joined es fs) ≡ op (g es) (g fs)
unfolding joined
all_joined op none f g u a n m nil fs = rw n (sym (u (g fs)))
all_joined op none f g u a n m (more e es) fs = m e (joined es fs) ∙ ap (op (f e)) (all_joined op none f g u a n m es fs) ∙ rw (m e es) (sym (a (f e) (g es) (g fs)))

pub any_joined : (f : Expr → Bool) (g : Exprs → Bool) → g nil ≡ false → ((e : Expr) (es : Exprs) → g (more e es) ≡ (f e || g es)) → (es fs : Exprs) → g (joined es fs) ≡ (g es || g fs)
any_joined f g = all_joined ◌||◌ false f g (λ b. refl) or_assoc

-- P of the expressions that are left from line at on
pub record Walk (s S : List ℕ) (P : Exprs → Type 0) (end at : ℕ) : Type 0 where
  pub loaded : Loaded s S
  pub exprs : Exprs
  pub left : Left s S at end exprs
  pub known : P exprs

-- one expression is left
pub walk_one : {s S : List ℕ} {P : Exprs → Type 0} {end i : ℕ} → Loaded s S → Here S grammar.Expr i → end ≡ end_at S i → P (more (expr_at s i) nil) → Walk s S P end i
walk_one {s} {i = i} d h e p = rw e (record { loaded = d; exprs = more (expr_at s i) nil; left = left_one d h; known = p })

module _ {s S : List ℕ} {P : Exprs → Type 0} {end at : ℕ} (w : Walk s S P end at) where
  pub walk_over : end ≤ at → P nil
  walk_over h = rw (left_over w.loaded w.left h) at w.known

  pub walk_known : {Q : Exprs → Type 0} → ((es : Exprs) → P es → Q es) → Walk s S Q end at
  walk_known f = record { loaded = w.loaded; exprs = w.exprs; left = w.left; known = f w.exprs w.known }

  module _ (h : at < end) where
    now : At w.loaded at end w.exprs
    now = left_at_lem w.loaded w.left h

    pub walk_line : Here S grammar.Expr at
    walk_line = now.here

    first : P (more (expr_at s at) now.rest)
    first = rw now.is at w.known

    -- what the expression at the line tells, whatever is behind it
    pub walk_found : {A : Type 0} → ((es : Exprs) → P (more (expr_at s at) es) → A) → A
    walk_found f = f now.rest first

    module _ {Q : Exprs → Type 0} where
      -- into the expression, over it, and over a callee
      pub walk_inside : ((es : Exprs) → P (more (expr_at s at) es) → Q (joined (parts_of (expr_at s at)) es)) → Walk s S Q end (at + 1)
      walk_inside f = rw (add-one at) (record { loaded = w.loaded; exprs = _; left = now.inside; known = f now.rest first })

      pub walk_behind : (at' : ℕ) → at' ≡ end_at S at → ((es : Exprs) → P (more (expr_at s at) es) → Q es) → Walk s S Q end at'
      walk_behind at' q f = rw q (record { loaded = w.loaded; exprs = _; left = now.behind; known = f now.rest first })

      pub walk_args : (at' : ℕ) → kind_at S at ≡ kinds.call → at' ≡ end_at S (suc at)
          → ((es : Exprs) → P (more (expr_at s at) es) → Q (joined (exprs_at s (call_arg_count S at) (end_at S (suc at))) es)) → Walk s S Q end at'
      walk_args at' k q f = rw q (record { loaded = w.loaded; exprs = _; left = left_args w.loaded now k; known = f now.rest first })

    pub walk_less : (at' : ℕ) → at' ≡ end_at S at → end - at' < end - at
    walk_less at' q = omega (arith, now.here.after)
