-- How the code judges types that were asked.
use Rattle.std.specs.Prelude.{ℕ, Bool, true, false, List, [], ◌∷◌, Result, Ok, Err}
use Rattle.rules.specs.Ast.{Expr, span}
use Rattle.rules.specs.Asking.{Res, ok, refused, Rule, expect}
use Rattle.rules.specs.declared.ty.Ty.{Ty}
use Rattle.rules.specs.declared.ty.Ty.TheVariants.{Int, Asset, Unknown}
use Rattle.rules.specs.Types.{is_ty}
use Rattle.rules.specs.Typing.{judge_key, amount_text}
use Rattle.rules.specs.Standing.{expr_at, field_at, Here}
use Rattle.refusals.specs.Answers.{Answers}
use Rattle.grammar.specs.Grammar as grammar
use Rattle.refusals.specs.Refusal.{dot_at, refusal_of, done_of}
use Rattle.refusals.specs.declared.refusal.Refusal.{Refusal}
use Rattle.env.specs.Force.{env_of}
use Rattle.env.specs.declared.env.Env.{Env}
use Rattle.env.specs.declared.judge.Sides.{Sides}

unfoldable pub typed_of : List ℕ → Result Ty Refusal → Res Ty
typed_of s (Ok t) = ok t
typed_of s (Err r) = refused (refusal_of s r)

-- the answer of two tests, why each refuses, and the type where both hold
unfoldable pub both_of : (l r : Bool) → (left right : Refusal) → Ty → Result Ty Refusal
both_of false r left right t = Err left
both_of true false left right t = Err right
both_of true true left right t = Ok t

-- r is what f answers to a type, whatever the sheet
pub record Judged (f : List ℕ → Ty → Rule Ty) (t : Ty) (r : Result Ty Refusal) : Type 0 where
  pub judged : (s : List ℕ) → Answers (f s t) (typed_of s r)

-- r is what the rule f of a binary operator answers to its sides, for the sheet s
abbrev pub JudgedIn : List ℕ → ((left right : Expr) (l r : Ty) → Rule Ty) → Sides → Result Ty Refusal → Type 0
JudgedIn s f x r = Answers (f (expr_at s x.left) (expr_at s x.right) x.l x.r) (typed_of s r)

-- ... whatever the sheet
pub record Judged2 (f : (left right : Expr) (l r : Ty) → Rule Ty) (x : Sides) (r : Result Ty Refusal) : Type 0 where
  pub judged : (s : List ℕ) → JudgedIn s f x r

pub record JudgesAmount (callee arg : ℕ) (t : Ty) (r : Result Unit Refusal) : Type 0 where
  pub judged : (s : List ℕ)
      → Answers (expect (is_ty t (Int ∷ Asset ∷ Unknown ∷ [])) 32 (span (expr_at s arg)) (amount_text (dot_at s callee).name)) (done_of s r)

abbrev pub JudgesKey : List ℕ → Env → (field : ℕ) → (is_key : Bool) → (arg : ℕ) → (want got : Ty) → Result Unit Refusal → Type 0
JudgesKey s env field is_key arg want got r =
    Answers (judge_key (env_of s [] env) (field_at s field).name is_key (expr_at s arg) want got) (done_of s r)

-- expressions stand at two lines
pub record Operands (S : List ℕ) (left right : ℕ) : Type 0 where
  pub one : Here S grammar.Expr left
  pub other : Here S grammar.Expr right
