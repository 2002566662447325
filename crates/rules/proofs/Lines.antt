-- Expressions whose lines are numbered as a sheet numbers them: a record's parts follow it directly.
-- Then one map tells what typing each line comes to, as `Mapped` of Keeps wants it. Assumes nothing.
use mathlib.Core.Path.{◌≡◌, refl, sym, ◌∙◌}
use mathlib.Core.Bool.{false, cond}
use Prim.Native.Nat.{ℕ, ◌<◌, ◌≤◌, suc}
use native.Mathlib.Omega.{arith}
use lib.Dec.{eqb, ltb}
use borrow.Author.Tests.{eq-eqb, ne_eqb, lt-ltb, le-ltb}
use Rattle.rules.specs.Ast.{Expr, leaf, unary, binary, field, call, wrap, Exprs, nil, more, line, line_after, lines_after}
use Rattle.rules.specs.Asking.{Rule, ret, Out, fresh}
use Rattle.rules.specs.declared.ty.Ty.{Ty}
use Rattle.rules.specs.declared.ty.Ty.TheVariants.{Int}
use Rattle.rules.specs.Typing.{Env, stale, typing}
use Rattle.rules.proofs.Keeps.{OfLine, Mapped, Afresh}
use Rattle.rules.proofs.Coherence.{Fits, FitsAll}
use Rattle.rules.proofs.Lets.{Past, past_on, not_stale}

-- each part stands directly behind what is before it
abbrev mutual
  pub Numbered : Expr → Type 0
  Numbered (leaf l s k) = Unit
  Numbered (unary l s o e) = (line e ≡ suc l) × Numbered e
  Numbered (binary l s o a b) = (line a ≡ suc l) × (line b ≡ line_after a) × Numbered a × Numbered b
  Numbered (field l s e x k) = (line e ≡ suc l) × Numbered e
  Numbered (call l s c es) = (line c ≡ suc l) × Numbered c × NumberedFrom (line_after c) es
  Numbered (wrap l s w e) = (line e ≡ suc l) × Numbered e

  pub NumberedFrom : ℕ → Exprs → Type 0
  NumberedFrom i nil = Unit
  NumberedFrom i (more e es) = (line e ≡ i) × Numbered e × NumberedFrom (line_after e) es

mutual
  unfolding line

  pub line_lt_after : (e : Expr) → Numbered e → line e < line_after e
  line_lt_after (leaf l s k) h = omega arith
  line_lt_after (unary l s o e) h = omega (arith, line_lt_after e h.1)
  line_lt_after (binary l s o a b) h = omega (arith, line_lt_after a h.2, line_lt_after b h.3)
  line_lt_after (field l s e x k) h = omega (arith, line_lt_after e h.1)
  line_lt_after (call l s c es) h = omega (arith, line_lt_after c h.1, lines_le_after (line_after c) es h.2)
  line_lt_after (wrap l s w e) h = omega (arith, line_lt_after e h.1)

  pub lines_le_after : (i : ℕ) (es : Exprs) → NumberedFrom i es → i ≤ lines_after i es
  lines_le_after i nil h = omega arith
  lines_le_after i (more e es) h = omega (arith, line_lt_after e h.1, lines_le_after (line_after e) es h.2)

-- what holds of each line of an expression holds of the askings that type it
module _ (P : ℕ → Type 0) (R : Rule Ty → Ty → Type 0) (Γ : Env) where
  -- of each line from i up to j
  abbrev Between : ℕ → ℕ → Type 0
  Between i j = (l : ℕ) → i ≤ l → l < j → P l

  mutual
    unfolding line

    pub fits_lines : (e : Expr) → Numbered e → Between (line e) (line_after e) → Fits (OfLine P) R Γ e
    fits_lines (leaf l s k) h f = f l (omega arith) (omega arith)
    fits_lines (unary l s o e) h f =
        let z = line_lt_after e h.1 in
        (f l (omega arith) (omega arith), fits_lines e h.1 (λ x u v. f x (omega arith) v))
    fits_lines (binary l s o a b) h f =
        let y = line_lt_after a h.2 in
        let z = line_lt_after b h.3 in
        (f l (omega arith) (omega arith), fits_lines a h.2 (λ x u v. f x (omega arith) (omega arith)), fits_lines b h.3 (λ x u v. f x (omega arith) v))
    fits_lines (field l s e n m) h f = let z = line_lt_after e h.1 in f l (omega arith) (omega arith)
    fits_lines (call l s c es) h f =
        let y = line_lt_after c h.1 in
        let z = lines_le_after (line_after c) es h.2 in
        (f l (omega arith) (omega arith), fits_lines_all (line_after c) es h.2 (λ x u v. f x (omega arith) v))
    fits_lines (wrap l s w e) h f =
        let z = line_lt_after e h.1 in
        (f l (omega arith) (omega arith), fits_lines e h.1 (λ x u v. f x (omega arith) v))

    fits_lines_all : (i : ℕ) (es : Exprs) → NumberedFrom i es → Between i (lines_after i es) → FitsAll (OfLine P) R Γ es
    fits_lines_all i nil h f = tt
    fits_lines_all i (more e es) h f =
        let y = line_lt_after e h.1 in
        let z = lines_le_after (line_after e) es h.2 in
        let w = h.0 in
        (fits_lines e h.1 (λ x u v. f x (omega arith) (omega arith)), fits_lines_all (line_after e) es h.2 (λ x u v. f x (omega arith) v))

-- what typing line i of the expression comes to
abbrev mutual
  pub out_at : Env → Expr → ℕ → Out Ty
  out_at Γ (leaf l s k) i = fresh (typing Γ (leaf l s k))
  out_at Γ (unary l s o e) i = cond (eqb i l) (fresh (typing Γ (unary l s o e))) (out_at Γ e i)
  out_at Γ (binary l s o a b) i = cond (eqb i l) (fresh (typing Γ (binary l s o a b))) (cond (ltb i (line_after a)) (out_at Γ a i) (out_at Γ b i))
  out_at Γ (field l s e x k) i = fresh (typing Γ (field l s e x k))
  out_at Γ (call l s c es) i = cond (eqb i l) (fresh (typing Γ (call l s c es))) (outs_at Γ es i)
  out_at Γ (wrap l s w e) i = cond (eqb i l) (fresh (typing Γ (wrap l s w e))) (out_at Γ e i)

  pub outs_at : Env → Exprs → ℕ → Out Ty
  outs_at Γ nil i = fresh (ret Int)
  outs_at Γ (more e es) i = cond (ltb i (line_after e)) (out_at Γ e i) (outs_at Γ es i)

at_line : {A : Type 0} (l : ℕ) (x y : A) → cond (eqb l l) x y ≡ x
at_line l x y = rw (eq-eqb l l refl)

off_line : {A : Type 0} (i l : ℕ) (x y : A) → l < i → cond (eqb i l) x y ≡ y
off_line i l x y h = rw (ne_eqb i l (λ e. omega arith))

before : {A : Type 0} (i j : ℕ) (x y : A) → i < j → cond (ltb i j) x y ≡ x
before i j x y h = rw (lt-ltb i j h)

behind : {A : Type 0} (i j : ℕ) (x y : A) → j ≤ i → cond (ltb i j) x y ≡ y
behind i j x y h = rw (le-ltb i j h)

-- m says of each line from i up to j what f says
abbrev pub Says : (ℕ → Out Ty) → (ℕ → Out Ty) → ℕ → ℕ → Type 0
Says m f i j = (x : ℕ) → i ≤ x → x < j → m x ≡ f x

module _ (m : ℕ → Out Ty) where
  pub here : (l j : ℕ) (x : Out Ty) (g : ℕ → Out Ty) → l < j → Says m (λ i. cond (eqb i l) x (g i)) l j → x ≡ m l
  here l j x g h f = sym (f l (omega arith) h ∙ at_line l x (g l))

  pub within : (l j a b : ℕ) (x : Out Ty) (g : ℕ → Out Ty) → l < a → b ≤ j → Says m (λ i. cond (eqb i l) x (g i)) l j → Says m g a b
  within l j a b x g p q f i u v = f i (omega arith) (omega arith) ∙ off_line i l x (g i) (omega arith)

  pub first : (k a b : ℕ) (g h : ℕ → Out Ty) → k ≤ b → Says m (λ i. cond (ltb i k) (g i) (h i)) a b → Says m g a k
  first k a b g h p f i u v = f i u (omega arith) ∙ before i k (g i) (h i) v

  pub rest : (k a b c : ℕ) (g h : ℕ → Out Ty) → a ≤ k → k ≤ c → Says m (λ i. cond (ltb i k) (g i) (h i)) a b → Says m h c b
  rest k a b c g h p q f i u v = f i (omega arith) v ∙ behind i k (g i) (h i) (omega arith)

-- no bound `let` ends behind line k, from which on the expressions stand
module _ (m : ℕ → Out Ty) (n : ℕ) (Γ : Env) (k : ℕ) (past : Past Γ.ends k) where
  now : (e : Expr) → k ≤ line e → stale Γ e ≡ false
  now e h = not_stale Γ e (past_on Γ.ends k (line e) past h)

  mutual
    unfolding line

    pub fits : (e : Expr) → k ≤ line e → Numbered e → line_after e ≤ n → Says m (out_at Γ e) (line e) (line_after e) → Fits (Mapped m n) Afresh Γ e
    fits (leaf l s v) g h b f = (sym (f l (omega arith) (omega arith)), omega arith, now _ g)
    fits (unary l s o e) g h b f =
        let z = line_lt_after e h.1 in
        let j : l < line_after e = omega arith in
        ((here m l (line_after e) _ (out_at Γ e) j f, omega arith, now _ g), fits e (omega arith) h.1 b (within m l (line_after e) (line e) (line_after e) _ _ (omega arith) (omega arith) f))
    fits (binary l s o a c) g h b f =
        let z = line_lt_after a h.2 in
        let y = line_lt_after c h.3 in
        let j : l < line_after c = omega arith in
        let says : Says m (λ i. cond (ltb i (line_after a)) (out_at Γ a i) (out_at Γ c i)) (line a) (line_after c) =
        within m l (line_after c) (line a) (line_after c) _ _ (omega arith) (omega arith) f
        in (
          (here m l (line_after c) _ _ j f, omega arith, now _ g),
          fits a (omega arith) h.2 (omega arith) (first m (line_after a) (line a) (line_after c) (out_at Γ a) (out_at Γ c) (omega arith) says),
          fits c (omega arith) h.3 b (rest m (line_after a) (line a) (line_after c) (line c) (out_at Γ a) (out_at Γ c) (omega arith) (omega arith) says),
        )
    fits (field l s e x v) g h b f = let z = line_lt_after e h.1 in (sym (f l (omega arith) (omega arith)), omega arith, now _ g)
    fits (call l s c es) g h b f =
        let z = line_lt_after c h.1 in
        let y = lines_le_after (line_after c) es h.2 in
        let j : l < lines_after (line_after c) es = omega arith in (
          (here m l (lines_after (line_after c) es) _ (outs_at Γ es) j f, omega arith, now _ g),
          fits_all (line_after c) es (omega arith) h.2 b (within m l (lines_after (line_after c) es) (line_after c) (lines_after (line_after c) es) _ _ (omega arith) (omega arith) f),
        )
    fits (wrap l s w e) g h b f =
        let z = line_lt_after e h.1 in
        let j : l < line_after e = omega arith in
        ((here m l (line_after e) _ (out_at Γ e) j f, omega arith, now _ g), fits e (omega arith) h.1 b (within m l (line_after e) (line e) (line_after e) _ _ (omega arith) (omega arith) f))

    pub fits_all : (i : ℕ) (es : Exprs) → k ≤ i → NumberedFrom i es → lines_after i es ≤ n → Says m (outs_at Γ es) i (lines_after i es) → FitsAll (Mapped m n) Afresh Γ es
    fits_all i nil g h b f = tt
    fits_all i (more e es) g h b f =
        let z = line_lt_after e h.1 in
        let y = lines_le_after (line_after e) es h.2 in
        let says : Says m (λ x. cond (ltb x (line_after e)) (out_at Γ e x) (outs_at Γ es x)) (line e) (lines_after (line_after e) es) = λ x u v. f x (omega arith) v in (
          fits e (omega arith) h.1 (omega arith) (first m (line_after e) (line e) (lines_after (line_after e) es) (out_at Γ e) (outs_at Γ es) (omega arith) says),
          fits_all (line_after e) es (omega arith) h.2 b
              (rest m (line_after e) (line e) (lines_after (line_after e) es) (line_after e) (out_at Γ e) (outs_at Γ es) (omega arith) (omega arith) says),
        )
