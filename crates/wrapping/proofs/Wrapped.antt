-- Marked names, and the lines of a value that wraps. Assumes nothing.
use mathlib.Core.Path.{◌≡◌, refl, sym, ap, ◌∙◌}
use mathlib.Core.Logic.{◌≢◌}
use mathlib.Core.List.{List, []}
use mathlib.Core.Bool.{Bool, true, false, not, ◌&&◌, ◌||◌, or_assoc, or-false}
use Prim.Native.Nat.{ℕ, zero, suc, ◌+◌, ◌-◌, ◌<◌, ◌≤◌}
use native.Mathlib.Numerals.{add-one}
use native.Mathlib.Omega.{arith}
use mir.Syntax.{w64}
use mir.Val.{Fits}
use lib.Dec.{eqb, ltb}
use lib.ListN.{get_or}
use borrow.Author.Tests.{ne_eqb, ltb-true, ltb-false, not-true, not-false}
use Rattle.std.specs.List.{list_any}
use Rattle.text.specs.Text.{same}
use Rattle.grammar.specs.Grammar as grammar
use Rattle.sheet.specs.Scratch.{kind_at, end_at, name_at, skip, line_count}
use Rattle.sheet.proofs.RecordLines.{record_lines}
use Rattle.rules.specs.Text.{Name, among}
use Rattle.rules.specs.Ast.{Exprs, expr_of}
use Rattle.rules.specs.Assets.{wraps, wraps_any}
use Rattle.rules.specs.Typing.{ident_leaf, leaf_has}
use Rattle.rules.specs.Standing.{expr_at, Loaded, Here, Row}
use Rattle.rules.proofs.Lookups.{among_first}
use Rattle.rules.proofs.Parts.{stop as end', ◌also◌, pick}
use Rattle.rules.proofs.Standing.{stands, row_first, row_nth, row_take}
use Rattle.rules.proofs.Exprs.{by_kind, leaf_at, dot_at_lem, call_at_lem}
use Rattle.rules.proofs.Forest.{joined, parts_of, skip_least}
use Rattle.rules.proofs.Walks as walks
use Rattle.rules.proofs.Walks.{any_joined, Walk, walk_one, walk_known, walk_inside, walk_behind, walk_args}
use Rattle.rules.proofs.Records.{let_at}
use Rattle.wrapping.specs.Marks.{wrapped_names, is_wrapping_let, wraps_here, next_line}
use Rattle.grammar.specs.Kinds as kinds
use Rattle.sheet.specs.Line.{most_lines}

or_swap : (a b c : Bool) → (a || (b || c)) ≡ (b || (a || c))
or_swap true true c = refl
or_swap true false c = refl
or_swap false b c = refl

-- ------------------------------------------------------------ one `let`

-- line i is a marked `let` of the name x
abbrev pub hit : (s S : List ℕ) → (M : List Bool) → Name → ℕ → Bool
hit s S M x i = get_or M i false && same x (name_at s S i)

module _ (s S : List ℕ) (M : List Bool) (x : Name) (i : ℕ) where
  pub no_mark : not (get_or M i false) ≡ true → false ≡ hit s S M x i
  no_mark h = rw (not-true (get_or M i false) h) refl

  pub by_name : (y : Name) (r : Bool) → not (get_or M i false) ≡ false → y ≡ name_at s S i → r ≡ same x y → r ≡ hit s S M x i
  by_name y r g n q = q ∙ rw (not-false (get_or M i false) g, n) refl

-- ------------------------------------------------------------ the `let`s before a statement

-- the last statement is told first, and the code looks at the first one first
among_wrapped : (s S : List ℕ) (M : List Bool) (x : Name) (k body : ℕ) → among x (wrapped_names s S M (suc k) body) ≡ (hit s S M x body || among x (wrapped_names s S M k (end_at S body)))
unfolding wrapped_names skip
among_wrapped s S M x zero body = among_first x (name_at s S body) [] (get_or M body false)
among_wrapped s S M x (suc k) body =
    let l = skip S k (end_at S body) in
    among_first x (name_at s S l) (wrapped_names s S M (suc k) body) (get_or M l false)
    ∙ rw (among_wrapped s S M x k body, among_first x (name_at s S l) (wrapped_names s S M k (end_at S body)) (get_or M l false))
    (or_swap (hit s S M x l) (hit s S M x body) (among x (wrapped_names s S M k (end_at S body))))

pub any_marked : (s S : List ℕ) (M : List Bool) (x : Name) (k body : ℕ) → list_any (hit s S M x) (record_lines S k body) ≡ among x (wrapped_names s S M k body)
unfolding record_lines wrapped_names among
any_marked s S M x zero body = refl
any_marked s S M x (suc k) body = ap (λ b. hit s S M x body || b) (any_marked s S M x k (end_at S body)) ∙ sym (among_wrapped s S M x k body)

-- ------------------------------------------------------------ one line of a value

module _ (s S : List ℕ) (xs : List Name) (i : ℕ) where
  pub is_wrapping_lem : kind_at S i ≡ kinds.wrapping → true ≡ wraps_here s S xs i
  unfolding wraps_here
  is_wrapping_lem h = rw h refl

  pub no_id : kind_at S i ≢ kinds.wrapping → kind_at S i ≢ kinds.id → false ≡ wraps_here s S xs i
  unfolding wraps_here
  no_id h g = rw (ne_eqb (kind_at S i) kinds.wrapping h, ne_eqb (kind_at S i) kinds.id g) refl

  pub by_id : (x : Name) (r : Bool) → kind_at S i ≡ kinds.id → x ≡ name_at s S i → r ≡ among x xs → r ≡ wraps_here s S xs i
  unfolding wraps_here
  by_id x r h n q = q ∙ rw (h, n) refl

module _ (S : List ℕ) (i : ℕ) where
  pub past_dot : (r : ℕ) → kind_at S i ≡ kinds.dot → r ≡ end_at S i → r ≡ next_line S i
  unfolding next_line
  past_dot r h q = q ∙ rw h refl

  pub past_callee : (r : ℕ) → kind_at S i ≡ kinds.call → r ≡ end_at S (i + 1) → r ≡ next_line S i
  unfolding next_line
  past_callee r h q = q ∙ rw (h, add-one i) refl

  pub inside : kind_at S i ≢ kinds.dot → kind_at S i ≢ kinds.call → i + 1 ≡ next_line S i
  unfolding next_line
  inside h g = rw (ne_eqb (kind_at S i) kinds.dot h, ne_eqb (kind_at S i) kinds.call g) (add-one i)

-- ------------------------------------------------------------ the lines of a value

wraps-joined : (xs : List Name) (es fs : Exprs) → wraps_any xs (joined es fs) ≡ (wraps_any xs es || wraps_any xs fs)
unfolding wraps_any
wraps-joined xs es fs = any_joined (wraps xs) (wraps_any xs) refl (λ e es. refl) es fs

module _ {s S : List ℕ} (d : Loaded s S) (xs : List Name) {i : ℕ} (h : Here S grammar.Expr i) where
  -- a line wraps by itself or in its parts
  abbrev Parted : Type 0
  Parted = wraps xs (expr_at s i) ≡ (wraps_here s S xs i || wraps_any xs (parts_of (expr_at s i)))

  below_dot : kind_at S i < kinds.dot → Parted
  unfolding wraps wraps_any wraps_here parts_of leaf_has ident_leaf
  below_dot =
      by_kind d h (λ k e. k < kinds.dot → wraps xs e ≡ ((eqb k kinds.wrapping || (eqb k kinds.id && among (name_at s S i) xs)) || wraps_any xs (parts_of e)))
      (λ k a b _.
      pick {P = λ k. leaf_has xs (leaf_at k (name_at s S i)) ≡ ((eqb k kinds.wrapping || (eqb k kinds.id && among (name_at s S i) xs)) || false)} {i = kinds.int} {n = 8} k
      (refl also sym (or-false _) also refl also refl also refl also refl also refl also refl also end') a b)
      (λ _. sym (or-false _))
      (λ _. rw or-false refl)
      (λ z. absurd (omega arith))
      (λ z. absurd (omega arith))
      (λ k w a z. absurd (omega arith))

  at_checked : kind_at S i ≡ kinds.checked → Parted
  unfolding wraps_here wraps wraps_any parts_of expr_at expr_of
  at_checked e = let t = stands d i h.within in rw (t.here, sym t.says.kind ∙ e, or-false, e) refl

  at_wrapping : kind_at S i ≡ kinds.wrapping → Parted
  unfolding wraps_here wraps wraps_any parts_of expr_at expr_of
  at_wrapping e = let t = stands d i h.within in rw (t.here, sym t.says.kind ∙ e, e) refl

-- the value wraps where what is left of it at line at does
abbrev pub Walking : (s S : List ℕ) → List Name → (i end at : ℕ) → Type 0
Walking s S xs i end at = Walk s S (λ es. wraps xs (expr_at s i) ≡ wraps_any xs es) end at

pub walk_start : (s S : List ℕ) (xs : List Name) (i end : ℕ) → Loaded s S → Here S grammar.Expr i → end ≡ end_at S i → Walking s S xs i end i
unfolding wraps_any
walk_start s S xs i end d h e = walk_one d h e (sym (or-false _))

module _ (s S : List ℕ) (xs : List Name) (i end at : ℕ) (g : Walking s S xs i end at) where
  pub walk_over : end ≤ at → false ≡ wraps xs (expr_at s i)
  unfolding wraps_any
  walk_over h = sym (walks.walk_over g h)

  module _ (h : at < end) where
    here : Here S grammar.Expr at
    here = walks.walk_line g h

    -- the line where the walk goes on, and what is left there
    abbrev Next : Type 0
    Next = (at < next_line S at) × Walk s S (λ es. wraps xs (expr_at s i) ≡ (wraps_here s S xs at || wraps_any xs es)) end (next_line S at)

    go_in : next_line S at ≡ at + 1 → Parted g.loaded xs here → Next
    unfolding wraps_any
    go_in n q = rw n (omega arith, walk_inside g h (λ es z. z ∙ rw (q, or_assoc, wraps-joined) refl))

    past_dots : kind_at S at ≡ kinds.dot → Next
    unfolding next_line wraps_here wraps wraps_any
    past_dots e = rw e (here.after, walk_behind g h (end_at S at) refl (λ es z. z ∙ rw (dot_at_lem g.loaded here e).0 refl))

    past_calls : kind_at S at ≡ kinds.call → Next
    unfolding next_line wraps_here wraps wraps_any
    past_calls e =
        let c = call_at_lem g.loaded here e in
        rw e (omega (arith, (row_first c.1).after), walk_args g h (end_at S (suc at)) e refl (λ es z. z ∙ rw (c.0, wraps-joined) refl))

    step : Next
    step = by_cases (ltb (kind_at S at) kinds.dot) refl
      where
        in_line : kind_at S at ≢ kinds.dot → kind_at S at ≢ kinds.call → next_line S at ≡ at + 1
        in_line p q = sym (inside S at p q)

        by_cases : (b : Bool) → ltb (kind_at S at) kinds.dot ≡ b → Next
        by_cases true q =
            let l = ltb-true (kind_at S at) kinds.dot q in
            go_in (in_line (λ z. omega arith) (λ z. omega arith)) (below_dot g.loaded xs here l)
        by_cases false q =
            pick {P = λ k. kind_at S at ≡ k → Next} {i = kinds.dot} {n = 4} (kind_at S at)
            (past_dots
            also past_calls
            also (λ e. go_in (in_line (λ z. omega arith) (λ z. omega arith)) (at_checked g.loaded xs here e))
            also (λ e. go_in (in_line (λ z. omega arith) (λ z. omega arith)) (at_wrapping g.loaded xs here e))
            also end')
            (ltb-false (kind_at S at) kinds.dot q) here.kind.1 refl

    pub walk_line : at < line_count S
    walk_line = here.within

    pub walk_found : (b : Bool) → b ≡ wraps_here s S xs at → b ≡ true → true ≡ wraps xs (expr_at s i)
    walk_found b e q = sym (step.1.known ∙ rw (← e, q) refl)

    module _ (at' : ℕ) (n : at' ≡ next_line S at) where
      pub walk_less : end - at' < end - at
      walk_less = omega (arith, step.0)

      pub walk_next : (b : Bool) → b ≡ wraps_here s S xs at → b ≡ false → Walking s S xs i end at'
      walk_next b e q = rw n (walk_known step.1 (λ es z. z ∙ rw (← e, q) refl))

-- ------------------------------------------------------------ the mark of a statement

module _ (s S : List ℕ) (i : ℕ) where
  pub let_value : Loaded s S → Here S grammar.Stmt i → kind_at S i ≡ kinds.let' → Here S grammar.Expr (i + 1)
  let_value d a h = rw (add-one i) (row_first (let_at d a h).1)

  module _ (xs : List Name) where
    pub no_let : kind_at S i ≢ kinds.let' → false ≡ is_wrapping_let s S xs i
    unfolding is_wrapping_let
    no_let h = rw (ne_eqb (kind_at S i) kinds.let' h) refl

    pub let_holds : (b : Bool) → kind_at S i ≡ kinds.let' → b ≡ wraps xs (expr_at s (i + 1)) → b ≡ is_wrapping_let s S xs i
    unfolding is_wrapping_let
    let_holds b h q = q ∙ rw (h, add-one i) refl

-- ------------------------------------------------------------ the bound statements

-- each takes a line
pub bound_fits : (S : List ℕ) (k body : ℕ) → Row S grammar.Stmt k body → line_count S ≤ most_lines → Fits w64 (k + 1)
bound_fits S zero body b f = record { fits = omega arith }
bound_fits S (suc k) body b f = record { fits = omega (arith, (row_nth k (omega arith) b).within, skip_least (row_take k (omega arith) b)) }
