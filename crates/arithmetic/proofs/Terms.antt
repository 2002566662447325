-- The terms that an operator joins, line by line, and the target among those of a sum. Assumes nothing.
use mathlib.Core.Path.{◌≡◌, refl, sym, ap, ◌∙◌}
use mathlib.Core.List.{List, [], ◌∷◌, ◌++◌, append-nil, append_assoc}
use mathlib.Core.Bool.{Bool, true, false, not, ◌&&◌, ◌||◌, and-eq-true_iff}
use Prim.Native.Nat.{ℕ, ◌+◌, ◌<◌, ◌≤◌}
use native.Mathlib.Omega.{arith}
use lib.Dec.{eqb}
use borrow.Author.Tests.{eqb-true}
use Rattle.std.specs.Prelude.{Option, Some, None, option_map, is_some}
use Rattle.text.specs.Text.{same}
use Rattle.grammar.specs.Grammar as grammar
use Rattle.sheet.specs.Scratch.{kind_at, op_at, name_at, end_at}
use Rattle.rules.specs.Text.{Name}
use Rattle.rules.specs.Ast.{BinOp, Add, Expr, leaf, unary, binary, field, call, wrap, Exprs, nil, more, Entry}
use Rattle.rules.specs.Arithmetic.{op_place, is_op, any, sum_terms, same_target, without, bounded}
use Rattle.rules.specs.Standing.{expr_at, Loaded, Here}
use Rattle.rules.proofs.Exprs.{by_kind, ident_at}
use Rattle.rules.proofs.Forest.{joined, parts_of}
use Rattle.rules.proofs.Walks.{Walk, walk_one, walk_over, walk_line, walk_found, walk_inside, walk_behind}
use Rattle.arithmetic.specs.Tests.{Tells, has_op, terms, others}
use Rattle.arithmetic.proofs.Ops.{op_meant, the_bin, is_bin, op_is}
use Rattle.grammar.specs.Coded.{bin_number, bin_of}
use Rattle.grammar.specs.declared.ops.BinOp as code
use Rattle.grammar.specs.declared.ops.BinOp.TheVariants as op
use Rattle.rules.specs.Operators.{bin_meant}
use Rattle.grammar.specs.Kinds as kinds
use Rattle.grammar.specs.Operators as ops

-- ------------------------------------------------------------ same_target

-- What `same_target` meets: t and u tell whether the lines a and b are an `id`.
module _ (s S : List ℕ) (a b : ℕ) (d : Loaded s S) (h : Here S grammar.Expr a) (g : Here S grammar.Expr b) (t : Bool) (e : t ≡ eqb (kind_at S a) kinds.id) where
  pub no_target : t ≡ false → false ≡ same_target (expr_at s a) (expr_at s b)
  unfolding same_target
  no_target n = rw (same_target, ident_at d h, ← e, n) refl

  module _ (q : t ≡ true) (u : Bool) (f : u ≡ eqb (kind_at S b) kinds.id) where
    pub other_target : u ≡ false → false ≡ same_target (expr_at s a) (expr_at s b)
    unfolding same_target
    other_target n =
        rw (same_target, ident_at d h, ← e, q, ident_at d g, ← f, n) refl

    pub both_targets : (x y : Name) (r : Bool) → u ≡ true → x ≡ name_at s S a → y ≡ name_at s S b → r ≡ same x y → r ≡ same_target (expr_at s a) (expr_at s b)
    unfolding same_target
    both_targets x y r n c z w =
        w ∙ rw (same_target, ident_at d h, ← e, q, ident_at d g, ← f, n, c, z) refl

-- ------------------------------------------------------------ terms, line by line

unfoldable pub terms_any : BinOp → Exprs → List Expr
terms_any p nil = []
terms_any p (more e es) = terms p e ++ terms_any p es

-- b tells whether the expression at line i has the operator
module _ (s S : List ℕ) (i : ℕ) (d : Loaded s S) (h : Here S grammar.Expr i) (o : code.BinOp) (b : Bool) (t : b ≡ has_op S o i) (es : Exprs) where
  two_sides : b ≡ true → terms_any (bin_meant o) (more (expr_at s i) es) ≡ terms_any (bin_meant o) (joined (parts_of (expr_at s i)) es)
  unfolding terms_any terms parts_of joined
  two_sides q =
      let p = bin_meant o in
      rw (the_bin s S i d h (is_bin s S i d h o b t q), terms, op_is s S i d h o b t q)
      (append_assoc (terms p (expr_at s (i + 1))) (terms p (expr_at s (end_at S (i + 1)))) (terms_any p es))

  pub one_term : b ≡ false → terms_any (bin_meant o) (more (expr_at s i) es) ≡ expr_at s i ∷ terms_any (bin_meant o) es
  unfolding terms_any terms
  one_term q =
      by_kind d h (λ k e. (eqb k kinds.bin && eqb (bin_number (bin_of (op_at S i))) (bin_number o)) ≡ false → terms (bin_meant o) e ++ terms_any (bin_meant o) es ≡ e ∷ terms_any (bin_meant o) es)
      (λ k _ _ _. refl) (λ _. refl) (λ e. rw (terms, op_meant (op_at S i) o, e) refl) (λ _. refl) (λ _. refl) (λ k w _ _. refl)
      (sym t ∙ q)

-- ... and of a sum alone, as the rules have it
unfoldable pub sums_any : Exprs → List Expr
sums_any nil = []
sums_any (more e es) = sum_terms e ++ sums_any es

-- the test for a sum at line i
module _ (s S : List ℕ) (i : ℕ) (d : Loaded s S) (h : Here S grammar.Expr i) (b : Bool) (t : b ≡ (eqb (kind_at S i) kinds.bin && eqb (op_at S i) ops.bin_add)) where
  pub sum_terms_lem : b ≡ true → (es : Exprs) → sums_any (more (expr_at s i) es) ≡ sums_any (joined (parts_of (expr_at s i)) es)
  unfolding sums_any sum_terms parts_of is_op op_place joined
  sum_terms_lem q es =
      let p = (and-eq-true_iff (eqb (kind_at S i) kinds.bin) (eqb (op_at S i) ops.bin_add)).0 (sym t ∙ q) in
      rw (the_bin s S i d h (eqb-true (kind_at S i) kinds.bin p.0), eqb-true (op_at S i) ops.bin_add p.1)
      (append_assoc (sum_terms (expr_at s (i + 1))) (sum_terms (expr_at s (end_at S (i + 1)))) (sums_any es))

-- a walk over the terms: P of those that are left
abbrev pub TermWalk : (s S : List ℕ) → code.BinOp → (List Expr → Type 0) → ℕ → ℕ → Type 0
TermWalk s S o P end at = Walk s S (λ es. P (terms_any (bin_meant o) es)) end at

term_start : {s S : List ℕ} (o : code.BinOp) (P : List Expr → Type 0) {end i : ℕ} → Loaded s S → Here S grammar.Expr i → end ≡ end_at S i → P (terms (bin_meant o) (expr_at s i)) → TermWalk s S o P end i
unfolding terms_any
term_start {s} o P {i = i} d h e p = walk_one d h e (rw (append-nil (terms (bin_meant o) (expr_at s i))) p)

module _ {s S : List ℕ} (o : code.BinOp) (P : List Expr → Type 0) {end at : ℕ} (w : TermWalk s S o P end at) where
  term_over : end ≤ at → P []
  unfolding terms_any
  term_over h = walk_over w h

  module _ (h : at < end) (b : Bool) (t : b ≡ has_op S o at) where
    term_into : b ≡ true → TermWalk s S o P end (at + 1)
    term_into q = walk_inside w h (λ es p. rw (two_sides s S at w.loaded (walk_line w h) o b t es q) at p)

    module _ (q : b ≡ false) where
      term_found : {A : Type 0} → ((ts : List Expr) → P (expr_at s at ∷ ts) → A) → A
      term_found f = walk_found w h (λ es p. f _ (rw (one_term s S at w.loaded (walk_line w h) o b t es q) at p))

      term_next : (Q : List Expr → Type 0) (at' : ℕ) → at' ≡ end_at S at → ((ts : List Expr) → P (expr_at s at ∷ ts) → Q ts) → TermWalk s S o Q end at'
      term_next Q at' u f = walk_behind w h at' u (λ es p. f _ (rw (one_term s S at w.loaded (walk_line w h) o b t es q) at p))

-- ------------------------------------------------------------ any_term

-- one of the whole passes where one of those that are left does
abbrev pub PassesIn : List ℕ → (ℕ → Bool → Type 0) → (whole : List Expr) → List Expr → Type 0
PassesIn s post whole ts = (p : Expr → Bool) → Tells s post p → any p whole ≡ any p ts

abbrev pub Trying : (s S : List ℕ) → code.BinOp → (ℕ → Bool → Type 0) → (whole : List Expr) → ℕ → ℕ → Type 0
Trying s S o post whole end at = TermWalk s S o (PassesIn s post whole) end at

pub trying_start : (s S : List ℕ) (o : code.BinOp) (post : ℕ → Bool → Type 0) (end i : ℕ) → Loaded s S → Here S grammar.Expr i → end ≡ end_at S i → Trying s S o post (terms (bin_meant o) (expr_at s i)) end i
trying_start s S o post end i d h e = term_start o (PassesIn s post (terms (bin_meant o) (expr_at s i))) d h e (λ p g. refl)

module _ (s S : List ℕ) (o : code.BinOp) (post : ℕ → Bool → Type 0) (whole : List Expr) (end at : ℕ) (w : Trying s S o post whole end at) where
  abbrev P : List Expr → Type 0
  P = PassesIn s post whole

  pub trying_over : end ≤ at → (p : Expr → Bool) → Tells s post p → false ≡ any p whole
  unfolding any
  trying_over h p g = sym (term_over o P w h p g)

  module _ (h : at < end) (b : Bool) (t : b ≡ has_op S o at) where
    pub trying_into : b ≡ true → Trying s S o post whole end (at + 1)
    trying_into q = term_into o P w h b t q

    module _ (q : b ≡ false) (c : Bool) (e : post at c) where
      pub trying_found : c ≡ true → (p : Expr → Bool) → Tells s post p → true ≡ any p whole
      unfolding any
      trying_found f p g = term_found o P w h b t q (λ ts k. sym (k p g ∙ rw (← g at c e, f) refl))

      pub trying_next : c ≡ false → (at' : ℕ) → at' ≡ end_at S at → Trying s S o post whole end at'
      unfolding any
      trying_next f at' u = term_next o P w h b t q P at' u (λ ts k p g. k p g ∙ rw (← g at c e, f) refl)

-- ------------------------------------------------------------ has_target

pub terms_of_sum : (e : Expr) → terms (bin_meant op.Add) e ≡ sum_terms e
unfolding terms sum_terms bin_meant
terms_of_sum (leaf l s k) = refl
terms_of_sum (unary l s o e) = refl
terms_of_sum (binary l s o a b) =
    ap (λ ts. elim (is_op o Add) as (λ _. List Expr) [ true ↦ ts | false ↦ binary l s o a b ∷ [] ]) (rw (terms_of_sum a, terms_of_sum b) refl)
terms_of_sum (field l s e n m) = refl
terms_of_sum (call l s c es) = refl
terms_of_sum (wrap l s w e) = refl

some_more : (o : Option (List Expr)) (t : Expr) → is_some (option_map (λ us. t ∷ us) o) ≡ is_some o
some_more None t = refl
some_more (Some us) t = refl

-- one of the terms is the target
pub target_any : (target : Expr) (ts : List Expr) → any (same_target target) ts ≡ is_some (without target ts)
unfolding without any
target_any target [] = refl
target_any target (t ∷ ts) = by_cases (same_target target t) (target_any target ts)
  where
    by_cases : (c : Bool) → any (same_target target) ts ≡ is_some (without target ts)
        → (c || any (same_target target) ts) ≡ is_some {T = List Expr} (elim c [ true ↦ Some ts | false ↦ option_map (λ us. t ∷ us) (without target ts) ])
    by_cases true e = refl
    by_cases false e = e ∙ sym (some_more (without target ts) t)

-- ------------------------------------------------------------ has_unbounded

-- an unbounded term is left where one is in the whole; where due, the first that is the target does not count
abbrev UnboundedIn : Entry → (target : Expr) → (due whole : Bool) → List Expr → Type 0
UnboundedIn E target due whole ts = whole ≡ any (λ t. not (bounded E t)) (others due target ts)

abbrev pub Unbounded : (s S : List ℕ) → Entry → (target : Expr) → (due : Bool) → Bool → ℕ → ℕ → Type 0
Unbounded s S E target due whole end at = TermWalk s S op.Add (UnboundedIn E target due whole) end at

pub unbounded_start : (s S : List ℕ) (E : Entry) (target : Expr) (own : Bool) (end i : ℕ) → Loaded s S → Here S grammar.Expr i → end ≡ end_at S i
    → Unbounded s S E target own (any (λ t. not (bounded E t)) (others own target (sum_terms (expr_at s i)))) end i
unbounded_start s S E target own end i d h e =
    term_start op.Add (UnboundedIn E target own (any (λ t. not (bounded E t)) (others own target (sum_terms (expr_at s i))))) d h e (rw (terms_of_sum (expr_at s i)) refl)

-- the target is left out once
left_out : (target t : Expr) (ts : List Expr) (due : Bool) → (due && same_target target t) ≡ true → others due target (t ∷ ts) ≡ others false target ts
unfolding others without
left_out target t ts true e = rw (others, without, e) refl
left_out target t ts false e = absurd (let z : ◌≡◌ {A = ℕ} 0 1 = cc in omega arith)

-- any other term stays
stays : (target t : Expr) (ts : List Expr) (due : Bool) → (due && same_target target t) ≡ false → others due target (t ∷ ts) ≡ t ∷ others due target ts
unfolding others without
stays target t ts true e = rw (others, without, e) (by_cases (without target ts))
  where
    by_cases : (o : Option (List Expr))
        → ◌≡◌ {A = List Expr} (elim (option_map (λ us. t ∷ us) o) as (λ _. List Expr) [ None ↦ t ∷ ts | Some us ↦ us ]) (t ∷ elim o as (λ _. List Expr) [ None ↦ ts | Some us ↦ us ])
    by_cases None = refl
    by_cases (Some us) = refl
stays target t ts false e = refl

none_left : (target : Expr) (due : Bool) → others due target [] ≡ []
unfolding others without
none_left target true = refl
none_left target false = refl

module _ (s S : List ℕ) (E : Entry) (target : Expr) (due whole : Bool) (end at : ℕ) (w : Unbounded s S E target due whole end at) where
  abbrev U : List Expr → Type 0
  U = UnboundedIn E target due whole

  pub unbounded_over : end ≤ at → false ≡ whole
  unfolding any
  unbounded_over h = sym (rw (none_left target due) at (term_over op.Add U w h))

  module _ (h : at < end) (b : Bool) (t : b ≡ has_op S op.Add at) where
    pub unbounded_into : b ≡ true → Unbounded s S E target due whole end (at + 1)
    unbounded_into q = term_into op.Add U w h b t q

    module _ (q : b ≡ false) (c : Bool) (e : c ≡ same_target target (expr_at s at)) where
      pub unbounded_own : (at' : ℕ) → (due && c) ≡ true → at' ≡ end_at S at → Unbounded s S E target false whole end at'
      unbounded_own at' f u =
          term_next op.Add U w h b t q (UnboundedIn E target false whole) at' u (λ ts k. k ∙ rw (left_out target (expr_at s at) ts due (rw (← e) f)) refl)

      module _ (f : (due && c) ≡ false) (r : Bool) (g : r ≡ bounded E (expr_at s at)) where
        pub unbounded_found : not r ≡ true → true ≡ whole
        unfolding any
        unbounded_found u = term_found op.Add U w h b t q (λ ts k. sym (k ∙ rw (stays target (expr_at s at) ts due (rw (← e) f), ← g, u) refl))

        pub unbounded_next : (at' : ℕ) → not r ≡ false → at' ≡ end_at S at → Unbounded s S E target due whole end at'
        unfolding any
        unbounded_next at' u v = term_next op.Add U w h b t q U at' v (λ ts k. k ∙ rw (stays target (expr_at s at) ts due (rw (← e) f), ← g, u) refl)
