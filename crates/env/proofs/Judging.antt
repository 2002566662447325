-- The judging of types that were asked, test by test. Assumes nothing.
use mathlib.Core.Path.{◌≡◌, refl, sym, ap, ◌∙◌}
use mathlib.Core.List.{List, [], ◌∷◌}
use mathlib.Core.Bool.{Bool, true, false, not, ◌||◌, ◌&&◌}
use Prim.Native.Nat.{ℕ}
use Prim.Native.String.{String}
use borrow.Author.Tests.{not-true, not-false}
use Rattle.std.specs.Prelude.{Result, Ok, Err}
use Rattle.rules.specs.Text.{lit}
use Rattle.rules.specs.Ast.{UnaryOp, Not as NotOp, Neg as NegOp, Expr, span}
use Rattle.rules.specs.Asking.{Res, Rule, ret, ◌>>◌, expect}
use Rattle.rules.specs.declared.ty.Ty.{Ty}
use Rattle.rules.specs.declared.ty.Ty.TheVariants.{Int, Bool as Boolean, Address, Asset, Name as TName, Unknown}
use Rattle.rules.specs.Types.{eq_ty, is_ty, numeric, compatible, is_zero_literal}
use Rattle.rules.specs.Standing.{expr_at}
use Rattle.rules.specs.Typing.{expect_numeric_or, expect_number, judge_unary, logical, arithmetic, ordering, equality, judge_key, is_name_param, not_text, neg_text, logical_text, arithmetic_text, ordering_text, names_compared_text, compared_text}
use Rattle.refusals.specs.Answers.{Answers}
use Rattle.refusals.specs.Refusal.{refusal_of, done_of}
use Rattle.refusals.specs.declared.refusal.Refusal.{Refusal}
use Rattle.refusals.specs.declared.refusal.Refusal.TheVariants.{Not, Neg, Logical, Arithmetic, Ordering, NamesCompared, Compared, Amount, NameNotParam, NameWanted, Holds}
use Rattle.std.specs.Result.{result_and}
use Rattle.refusals.specs.Answers.{expected}
use Rattle.refusals.proofs.Answers.{gives, expects, passes, refuses}
use denote.Enum.Bare.{sameb}
use Rattle.rules.specs.contracts.ty.Ty.{the_type}
use Rattle.rules.proofs.Same.{told_ty}
use Rattle.rules.specs.Operators.{unary_meant}
use Rattle.grammar.specs.declared.ops.UnaryOp as code
use Rattle.env.specs.Answers.{typed_of, both_of, Judged, Judged2, JudgedIn, JudgesAmount, JudgesKey}
use Rattle.env.specs.Force.{env_of}
use Rattle.env.specs.declared.env.Env.{Env}
use Rattle.env.specs.declared.judge.Sides.{Sides}

-- ------------------------------------------------------------ operands

-- A rule that wants f of an operand's type refuses the operand's line by `why`.
pub record Wants (f : Ty → Bool) (why : ℕ → Refusal) : Type 0 where
  pub number : ℕ
  pub text : String
  pub told : (s : List ℕ) (i : ℕ) → refusal_of s (why i) ≡ record { number = number; place = span (expr_at s i); text = lit text ∷ [] }

abbrev pub want : {f : Ty → Bool} {why : ℕ → Refusal} → Wants f why → Ty → Expr → Rule Unit
want {f} w t e = expect (f t) w.number (span e) (lit w.text ∷ [])

module _ {f : Ty → Bool} {why : ℕ → Refusal} (w : Wants f why) (b : Bool) (t : Ty) (h : b ≡ f t) (s : List ℕ) (i : ℕ) (q : Rule Ty) where
  operand_fine : (r : Res Ty) → b ≡ true → Answers q r → Answers (want w t (expr_at s i) >> q) r
  operand_fine r e a = passes (f t) w.number (span (expr_at s i)) (lit w.text ∷ []) q r (sym h ∙ e) a

  operand_wrong : b ≡ false → Answers (want w t (expr_at s i) >> q) (typed_of s (Err (why i)))
  unfolding typed_of
  operand_wrong e = rw (w.told s i) (refuses (f t) w.number (span (expr_at s i)) (lit w.text ∷ []) q (sym h ∙ e))

-- the rule of a unary operator, whose answer is n
pub record Unary (op : UnaryOp) (f : Ty → Bool) (why : ℕ → Refusal) (n : Ty) : Type 1 where
  pub wants : Wants f why
  pub is : (a : Expr) (t : Ty) → judge_unary op a t ≡ (want wants t a >> ret n)

-- ... and of a binary one
pub record Binary (rule : (left right : Expr) (l r : Ty) → Rule Ty) (f : Ty → Bool) (why : ℕ → Refusal) (n : Ty) : Type 1 where
  pub wants : Wants f why
  pub is : (a b : Expr) (l r : Ty) → rule a b l r ≡ (want wants l a >> (want wants r b >> ret n))

module _ {op : UnaryOp} {f : Ty → Bool} {why : ℕ → Refusal} {n : Ty} (u : Unary op f why n) (o : code.UnaryOp) (i : ℕ) (c : Ty) (b : Bool) (q : unary_meant o ≡ op) (h : b ≡ f c) where
  pub unary_judged : (t : Result Unit Refusal) (r : Result Ty Refusal) → t ≡ expected b (why i) → r ≡ result_and t (Ok n) → Judged (λ s. judge_unary (unary_meant o) (expr_at s i)) c r
  unfolding expected typed_of
  unary_judged t r e a = rw (a, e) (by_cases b refl)
    where
      by_cases : (x : Bool) → b ≡ x → Judged (λ s. judge_unary (unary_meant o) (expr_at s i)) c (result_and (expected x (why i)) (Ok n))
      by_cases true z = record { judged = λ s. rw (q, u.is (expr_at s i) c) (operand_fine u.wants b c h s i (ret n) _ z (gives n)) }
      by_cases false z = record { judged = λ s. rw (q, u.is (expr_at s i) c) (operand_wrong u.wants b c h s i (ret n) z) }

module _ {rule : (left right : Expr) (l r : Ty) → Rule Ty} {f : Ty → Bool} {why : ℕ → Refusal} {n : Ty} (o : Binary rule f why n) (x : Sides) where
  by_tests : (b d : Bool) → b ≡ f x.l → d ≡ f x.r → Judged2 rule x (both_of b d (why x.left) (why x.right) n)
  unfolding both_of typed_of
  by_tests false d h y = record { judged = λ s. rw (o.is (expr_at s x.left) (expr_at s x.right) x.l x.r) (operand_wrong o.wants false x.l h s x.left _ refl) }
  by_tests true false h y =
      record {
        judged = λ s.
            rw (o.is (expr_at s x.left) (expr_at s x.right) x.l x.r)
            (operand_fine o.wants true x.l h s x.left _ _ refl (operand_wrong o.wants false x.r y s x.right _ refl));
      }
  by_tests true true h y =
      record {
        judged = λ s.
            rw (o.is (expr_at s x.left) (expr_at s x.right) x.l x.r)
            (operand_fine o.wants true x.l h s x.left _ _ refl (operand_fine o.wants true x.r y s x.right _ _ refl (gives n)));
      }

  pub both_judged : (b d : Bool) (a : Result Ty Refusal) → b ≡ f x.l → d ≡ f x.r → a ≡ both_of b d (why x.left) (why x.right) n → Judged2 rule x a
  both_judged b d a h y e = rw e (by_tests b d h y)

-- ------------------------------------------------------------ operators

-- `ty == want || ty == Ty::Unknown`
abbrev pub OrUnknown : Ty → Ty → Bool
OrUnknown u t = eq_ty t u || eq_ty t Unknown

pub logical-is : Binary logical (OrUnknown Boolean) Logical Boolean
unfolding logical expect_numeric_or refusal_of
logical-is =
    record { wants = record { number = 38; text = logical_text; told = λ s i. refl }; is = λ a b l r. refl }

pub arithmetic-is : Binary arithmetic numeric Arithmetic Int
unfolding arithmetic expect_number refusal_of
arithmetic-is =
    record { wants = record { number = 39; text = arithmetic_text; told = λ s i. refl }; is = λ a b l r. refl }

pub ordering-is : Binary ordering numeric Ordering Boolean
unfolding ordering expect_number refusal_of
ordering-is =
    record { wants = record { number = 40; text = ordering_text; told = λ s i. refl }; is = λ a b l r. refl }

pub not_is : Unary NotOp (OrUnknown Boolean) Not Boolean
unfolding judge_unary expect_numeric_or refusal_of
not_is =
    record { wants = record { number = 36; text = not_text; told = λ s i. refl }; is = λ a t. refl }

pub neg_is : Unary NegOp (OrUnknown Int) Neg Int
unfolding judge_unary expect_numeric_or refusal_of
neg_is =
    record { wants = record { number = 37; text = neg_text; told = λ s i. refl }; is = λ a t. refl }

-- ------------------------------------------------------------ equality

module _ (s : List ℕ) (x : Sides) (u v : Bool) (g : u ≡ sameb the_type x.l TName) (k : v ≡ sameb the_type x.r TName) where
  named : (b : Bool) → (u || v) ≡ b → not (eq_ty x.l TName || eq_ty x.r TName) ≡ not b
  named b e = rw (← told_ty x.l TName u g, ← told_ty x.r TName v k, e) refl

  pub names_wrong : (u || v) ≡ true → JudgedIn s equality x (Err (NamesCompared x.left))
  unfolding equality typed_of refusal_of
  names_wrong e = refuses _ 41 (span (expr_at s x.left)) names_compared_text _ (named true e)

  abbrev comparable : Bool
  comparable =
      compatible x.l x.r || (eq_ty x.l Address && is_zero_literal (expr_at s x.right)) || (eq_ty x.r Address && is_zero_literal (expr_at s x.left))

  module _ (b c d : Bool) (n : (u || v) ≡ false) (h : b ≡ compatible x.l x.r)
      (p : c ≡ (eq_ty x.l Address && is_zero_literal (expr_at s x.right))) (q : d ≡ (eq_ty x.r Address && is_zero_literal (expr_at s x.left))) where
    as_tested : comparable ≡ (b || c || d)
    as_tested = rw (h, p, q) refl

    pub compared : (t : Result Unit Refusal) (r : Result Ty Refusal) → t ≡ expected (b || c || d) (Compared x.right x.l x.r) → r ≡ result_and t (Ok Boolean) → JudgedIn s equality x r
    unfolding equality expected typed_of refusal_of
    compared t r e a = passes _ 41 (span (expr_at s x.left)) names_compared_text _ _ (named false n) (rw (a, e) (by_cases (b || c || d) as_tested))
      where
        by_cases : (z : Bool) → comparable ≡ z
            → Answers (expect comparable 42 (span (expr_at s x.right)) (compared_text x.l x.r) >> ret Boolean) (typed_of s (result_and (expected z (Compared x.right x.l x.r)) (Ok Boolean)))
        by_cases true k = passes _ 42 (span (expr_at s x.right)) (compared_text x.l x.r) _ _ k (gives Boolean)
        by_cases false k = refuses _ 42 (span (expr_at s x.right)) (compared_text x.l x.r) _ k

-- ------------------------------------------------------------ keyed calls

-- what is judged on every sheet is judged on this one
pub in_sheet : {f : (left right : Expr) (l r : Ty) → Rule Ty} {x : Sides} {r : Result Ty Refusal} (s : List ℕ) → Judged2 f x r → JudgedIn s f x r
in_sheet s h = h.judged s

module _ (callee arg : ℕ) (t : Ty) (b : Bool) (e : b ≡ is_ty t (Int ∷ Asset ∷ Unknown ∷ [])) where
  pub amount_judged : (r : Result Unit Refusal) → r ≡ expected b (Amount callee arg) → JudgesAmount callee arg t r
  unfolding refusal_of
  amount_judged r h = record { judged = λ s. expects s _ (Amount callee arg) r (h ∙ ap (λ k. expected k (Amount callee arg)) e) }

-- a implies b
implies : (a b : Bool) → (not a || b) ≡ not (a && not b)
implies true true = refl
implies true false = refl
implies false b = refl

-- what `straight` answers for the type d
module _ (d : Ty) (x u : Bool) (g : u ≡ sameb the_type d TName) where
  pub straight_other : u ≡ false → true ≡ (not (eq_ty d TName) || x)
  straight_other e = rw (← told_ty d TName u g, e) refl

  pub straight_name : (b : Bool) → u ≡ true → b ≡ x → b ≡ (not (eq_ty d TName) || x)
  straight_name b e q = rw (← told_ty d TName u g, e) q

module _ (s : List ℕ) (env : Env) (field : ℕ) (key : Bool) (arg : ℕ) (c d : Ty) (b : Bool) (p : b ≡ (not (eq_ty d TName) || is_name_param (env_of s [] env) (expr_at s arg))) where
  pub straight_wrong : not b ≡ true → JudgesKey s env field key arg c d (Err (NameNotParam field arg))
  unfolding judge_key done_of refusal_of
  straight_wrong e = refuses _ 33 _ _ _ (sym p ∙ not-true b e)

  -- whether the types are names
  module _ (n : not b ≡ false) (u v : Bool) (g : u ≡ sameb the_type c TName) (k : v ≡ sameb the_type d TName) where
    is_named : (not (eq_ty c TName) || eq_ty d TName) ≡ not (u && not v)
    is_named = rw (← told_ty c TName u g, ← told_ty d TName v k) (implies u v)

    pub name_wrong : (u && not v) ≡ true → JudgesKey s env field key arg c d (Err (NameWanted field arg))
    unfolding judge_key done_of refusal_of
    name_wrong e = passes _ 33 _ _ _ _ (sym p ∙ not-false b n) (refuses _ 34 _ _ _ (is_named ∙ rw e refl))

    module _ (x : Bool) (m : (u && not v) ≡ false) (h : x ≡ compatible c d) where
      holds : ((key && eq_ty d TName) || compatible c d) ≡ ((key && v) || x)
      holds = rw (h, ← told_ty d TName v k) refl

      pub key_judged : (r : Result Unit Refusal) → r ≡ expected ((key && v) || x) (Holds field arg c d) → JudgesKey s env field key arg c d r
      unfolding judge_key refusal_of
      key_judged r e =
          passes _ 33 _ _ _ _ (sym p ∙ not-false b n)
          (passes _ 34 _ _ _ _ (is_named ∙ rw m refl) (expects s _ (Holds field arg c d) r (e ∙ ap (λ k. expected k (Holds field arg c d)) (sym holds))))

pub ruleset laws_judging = (straight_wrong, name_wrong, key_judged, straight_other, straight_name, names_wrong, compared, amount_judged)
