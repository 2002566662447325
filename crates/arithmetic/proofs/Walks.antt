-- Walks over the lines of an expression. Assumes nothing.
use mathlib.Core.Path.{◌≡◌, refl, sym, ◌∙◌}
use mathlib.Core.List.{List, [], ◌∷◌}
use mathlib.Core.Bool.{Bool, true, false, ◌&&◌, ◌||◌, or_assoc, or-false, true≢false}
use Prim.Native.Nat.{ℕ, ◌+◌, ◌<◌, ◌≤◌}
use lib.Dec.{eqb}
use Rattle.text.specs.Text.{same}
use Rattle.text.proofs.Words.{same_swap}
use Rattle.grammar.specs.Grammar as grammar
use Rattle.sheet.specs.Scratch.{kind_at, name_at, end_at}
use Rattle.rules.specs.Text.{Name, among}
use Rattle.rules.specs.Ast.{Expr, leaf, unary, binary, field, call, wrap, Exprs, more}
use Rattle.rules.specs.Arithmetic.{acknowledged, mentions, mentions_any}
use Rattle.rules.specs.Typing.{ident_leaf, leaf_has}
use Rattle.rules.specs.Standing.{expr_at, Loaded, Here}
use Rattle.rules.proofs.Lookups.{among_first}
use Rattle.rules.proofs.Parts.{stop, ◌also◌, pick}
use Rattle.rules.proofs.Exprs.{leaf_at, by_kind}
use Rattle.rules.proofs.Forest.{joined, parts_of}
use Rattle.rules.proofs.Walks.{any_joined, Walk, walk_one, walk_over, walk_line, walk_found, walk_inside, walk_behind}
use Rattle.grammar.specs.Kinds as kinds

-- ------------------------------------------------------------ a name in an expression

-- an expression that is no `checked` or `wrapping` mentions x itself or in its parts
mentions_self : (s S : List ℕ) (i : ℕ) (x : Name) → Loaded s S → Here S grammar.Expr i → acknowledged (expr_at s i) ≡ false
    → mentions (expr_at s i) x ≡ ((eqb (kind_at S i) kinds.id && same (name_at s S i) x) || mentions_any (parts_of (expr_at s i)) x)
unfolding mentions mentions_any parts_of leaf_has ident_leaf among acknowledged
mentions_self s S i x d h =
    by_kind d h (λ k e. acknowledged e ≡ false → mentions e x ≡ ((eqb k kinds.id && same (name_at s S i) x) || mentions_any (parts_of e) x))
    (λ k a b _.
    pick {P = λ k. leaf_has (x ∷ []) (leaf_at k (name_at s S i)) ≡ ((eqb k kinds.id && same (name_at s S i) x) || false)} {i = kinds.int} {n = 8} k
    (refl also among_first (name_at s S i) x [] true also refl also refl also refl also refl also refl also refl also stop) a b)
    (λ _. sym (or-false _)) (λ _. rw or-false refl) (λ _. sym (or-false _)) (λ _. refl)
    (λ k w a b. absurd (true≢false b))

mentions_wrap : (e : Expr) (x : Name) → acknowledged e ≡ true → mentions e x ≡ false
unfolding mentions acknowledged
mentions_wrap (leaf l s k) x q = absurd (true≢false (sym q))
mentions_wrap (unary l s o e) x q = absurd (true≢false (sym q))
mentions_wrap (binary l s o a b) x q = absurd (true≢false (sym q))
mentions_wrap (field l s e n m) x q = absurd (true≢false (sym q))
mentions_wrap (call l s c es) x q = absurd (true≢false (sym q))
mentions_wrap (wrap l s w e) x q = refl

abbrev pub Mention : (s S : List ℕ) → Name → Bool → ℕ → ℕ → Type 0
Mention s S x whole end at = Walk s S (λ es. whole ≡ mentions_any es x) end at

pub mention_start : (s S : List ℕ) (x : Name) (end i : ℕ) → Loaded s S → Here S grammar.Expr i → end ≡ end_at S i → Mention s S x (mentions (expr_at s i) x) end i
unfolding mentions_any
mention_start s S x end i d h e = walk_one d h e (sym (or-false _))

module _ (s S : List ℕ) (x : Name) (whole : Bool) (end at : ℕ) (w : Mention s S x whole end at) where
  pub mention_over : end ≤ at → false ≡ whole
  unfolding mentions_any
  mention_over h = sym (walk_over w h)

  module _ (h : at < end) (a : Bool) (e : a ≡ acknowledged (expr_at s at)) where
    pub mention_past : (at' : ℕ) → a ≡ true → at' ≡ end_at S at → Mention s S x whole end at'
    unfolding mentions_any
    mention_past at' l q =
        walk_behind w h at' q (λ es z. z ∙ rw (mentions_wrap (expr_at s at) x (sym e ∙ l)) refl)

    module _ (l : a ≡ false) (b : Bool) (t : b ≡ (eqb (kind_at S at) kinds.id && same x (name_at s S at))) where
      self : (es : Exprs) → mentions_any (more (expr_at s at) es) x ≡ (b || mentions_any (joined (parts_of (expr_at s at)) es) x)
      unfolding mentions_any
      self es =
          rw (mentions_self s S at x w.loaded (walk_line w h) (sym e ∙ l), any_joined (λ e. mentions e x) (λ es. mentions_any es x) refl (λ e es. refl), same_swap (name_at s S at) x, ← t, or_assoc) refl

      pub mention_found : b ≡ true → true ≡ whole
      mention_found f = walk_found w h (λ es z. sym (z ∙ self es ∙ rw f refl))

      pub mention_onward : b ≡ false → Mention s S x whole end (at + 1)
      mention_onward f = walk_inside w h (λ es z. z ∙ self es ∙ rw f refl)
