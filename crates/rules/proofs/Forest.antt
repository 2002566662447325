-- A walk over the lines of expressions: what is left of them at each line. Assumes nothing.
use mathlib.Core.Path.{◌≡◌, refl, sym, ap, ◌∙◌}
use mathlib.Core.List.{List, [], append-nil}
use Prim.Native.Nat.{ℕ, zero, suc, ◌+◌, ◌-◌, ◌<◌, ◌≤◌}
use native.Mathlib.Omega.{arith}
use lib.ListN.{length}
use Rattle.grammar.specs.Grammar as grammar
use Rattle.sheet.specs.Held.{held, HeldAll, no_tree, tree, formed, FormedAll, none_due, one_due}
use Rattle.sheet.specs.Load.{copies, sorts}
use Rattle.sheet.specs.Scratch.{kind_at, end_at, skip, call_arg_count}
use Rattle.sheet.specs.Tree.{Nodes, take_nodes}
use Rattle.sheet.proofs.Due.{length-copies}
use Rattle.rules.specs.Ast.{Expr, leaf, unary, binary, field, call, wrap, Exprs, nil, more, exprs_of}
use Rattle.rules.specs.Standing.{expr_at, exprs_at, Loaded, Here, Row, stop, next}
use Rattle.rules.proofs.Parts.{stop as end', ◌also◌, pick, parts}
use Rattle.rules.proofs.Standing.{Stands, stands, exprs_next, row_first, row_rest}
use Rattle.rules.proofs.Placed.{Placed, expr}
use Rattle.rules.proofs.Exprs.{un_at, bin_at, dot_at_lem, call_at_lem, wrap_at, leaf_at_lem}
use Rattle.grammar.specs.Kinds as kinds

-- expressions before others
unfoldable pub joined : Exprs → Exprs → Exprs
joined nil fs = fs
joined (more e es) fs = more e (joined es fs)

-- the parts of an expression
unfoldable pub parts_of : Expr → Exprs
parts_of (leaf l s k) = nil
parts_of (unary l s o e) = more e nil
parts_of (binary l s o a b) = more a (more b nil)
parts_of (field l s e n m) = more e nil
parts_of (call l s c es) = more c es
parts_of (wrap l s w e) = more e nil

-- the lines from i up to end are those of the expressions es, one behind another
pub record Left (s S : List ℕ) (i end : ℕ) (es : Exprs) : Type 0 where
  pub count : ℕ
  pub row : Row S grammar.Expr count i
  pub ends : skip S count i ≡ end
  pub are : exprs_at s count i ≡ es

-- ------------------------------------------------------------ rows

no_exprs : (s : List ℕ) (i : ℕ) → exprs_at s 0 i ≡ nil
unfolding exprs_at take_nodes exprs_of
no_exprs s i = refl

pub skip_add : (S : List ℕ) (a b i : ℕ) → skip S (a + b) i ≡ skip S b (skip S a i)
unfolding skip
skip_add S zero b i = rw (let e : 0 + b ≡ b = omega arith in e) refl
skip_add S (suc a) b i = rw (let e : suc a + b ≡ suc (a + b) = omega arith in e) (skip_add S a b (end_at S i))

pub row_join : {S : List ℕ} {σ : grammar.Sort} {a b i : ℕ} → Row S σ a i → Row S σ b (skip S a i) → Row S σ (a + b) i
unfolding skip
row_join {b = b} stop r = rw (let e : 0 + b ≡ b = omega arith in e) r
row_join {a = suc a} {b = b} (next x xs) r = rw (let e : suc a + b ≡ suc (a + b) = omega arith in e) (next x (row_join xs r))

pub exprs_join : {s S : List ℕ} {a : ℕ} (b : ℕ) {i : ℕ} → Loaded s S → Row S grammar.Expr a i → exprs_at s (a + b) i ≡ joined (exprs_at s a i) (exprs_at s b (skip S a i))
unfolding skip joined
exprs_join {s} b {i = i} d stop = rw (no_exprs s i, let e : 0 + b ≡ b = omega arith in e) refl
exprs_join {s} {a = suc a} b {i = i} d (next x xs) =
    rw (let e : suc a + b ≡ suc (a + b) = omega arith in e, exprs_next d (a + b) i x.within, exprs_next d a i x.within)
    (ap (more (expr_at s i)) (exprs_join b d xs))

pub skip_least : {S : List ℕ} {σ : grammar.Sort} {k i : ℕ} → Row S σ k i → i + k ≤ skip S k i
unfolding skip
skip_least stop = omega arith
skip_least (next x xs) = omega (arith, x.after, skip_least xs)

-- ------------------------------------------------------------ the parts of an expression

pub ends_of : {S : List ℕ} {n i j : ℕ} {ss : List grammar.Sort} {ps : Nodes} → HeldAll S n i j ps → FormedAll ss ps → skip S (length ss) i ≡ j
unfolding skip
ends_of no_tree none_due = refl
ends_of (tree h hs) (one_due f fs) = ends_of hs fs

-- the line after a line's parts, which are of one sort
pub parts_end : {s S : List ℕ} {i : ℕ} (σ : grammar.Sort) (k : ℕ) (t : Stands s S i) → sorts t.line.parts ≡ copies k σ → skip S k (suc i) ≡ end_at S i
parts_end σ k t e = rw (e, length-copies) at (ends_of t.held t.formed)

module _ {s S : List ℕ} (d : Loaded s S) {i : ℕ} (h : Here S grammar.Expr i) where
  abbrev Below : Type 0
  Below = Left s S (suc i) (end_at S i) (parts_of (expr_at s i))

  t : Stands s S i
  t = stands d i h.within

  kind_is : {k : ℕ} → kind_at S i ≡ k → t.line.kind ≡ k
  kind_is e = sym t.says.kind ∙ e

  one_below : (e : Expr) → expr_at s i ≡ e → parts_of e ≡ more (expr_at s (suc i)) nil → Row S grammar.Expr 1 (suc i) → sorts t.line.parts ≡ copies 1 grammar.Expr → Below
  one_below e q p r f =
      record {
        count = 1;
        row = r;
        ends = parts_end grammar.Expr 1 t f;
        are = exprs_next d 0 (suc i) (row_first r).within ∙ rw (no_exprs s (end_at S (suc i)), q, p) refl;
      }

  no_below : (k : ℕ) → kinds.int ≤ k → k < kinds.un → kind_at S i ≡ k → sorts t.line.parts ≡ [] → Below
  unfolding parts_of skip copies
  no_below k a b e f =
      record { count = 0; row = stop; ends = parts_end grammar.Expr 0 t f; are = no_exprs s (suc i) ∙ rw (leaf_at_lem d h k a b e) refl }

  two_below : kind_at S i ≡ kinds.bin → sorts t.line.parts ≡ copies 2 grammar.Expr → Below
  unfolding parts_of
  two_below e f =
      let q = bin_at d h e in
      record {
        count = 2;
        row = q.1;
        ends = parts_end grammar.Expr 2 t f;
        are =
            exprs_next d 1 (suc i) (row_first q.1).within
            ∙ rw (exprs_next d 0 (end_at S (suc i)) (row_first (row_rest q.1)).within, no_exprs s (end_at S (end_at S (suc i))), q.0) refl;
      }

  call_below : (m : ℕ) → kind_at S i ≡ kinds.call → sorts t.line.parts ≡ copies (suc m) grammar.Expr → call_arg_count S i ≡ m → Below
  unfolding parts_of
  call_below m e f c =
      let q = call_at_lem d h e in
      record {
        count = suc (call_arg_count S i);
        row = q.1;
        ends = rw c (parts_end grammar.Expr (suc m) t f);
        are = exprs_next d (call_arg_count S i) (suc i) (row_first q.1).within ∙ rw q.0 refl;
      }

  wrap_below : (k : ℕ) → kinds.checked ≤ k → kind_at S i ≡ k → sorts t.line.parts ≡ copies 1 grammar.Expr → Below
  unfolding parts_of
  wrap_below k a e f = let w = wrap_at d h (omega (arith, e)) in one_below _ w.1.0 refl w.1.1 f

  pub below : Below
  unfolding sorts copies parts_of
  below =
      pick {P = λ k. kind_at S i ≡ k → Below} {i = kinds.int} {n = 14} (kind_at S i)
      ((λ e. no_below kinds.int (omega arith) (omega arith) e (rw (parts t.line kinds.int t.parted (kind_is e)) refl))
      also (λ e. no_below kinds.id (omega arith) (omega arith) e (rw (parts t.line kinds.id t.parted (kind_is e)) refl))
      also (λ e. no_below kinds.date (omega arith) (omega arith) e (rw (parts t.line kinds.date t.parted (kind_is e)) refl))
      also (λ e. no_below kinds.str (omega arith) (omega arith) e (rw (parts t.line kinds.str t.parted (kind_is e)) refl))
      also (λ e. no_below kinds.caller (omega arith) (omega arith) e (rw (parts t.line kinds.caller t.parted (kind_is e)) refl))
      also (λ e. no_below kinds.native (omega arith) (omega arith) e (rw (parts t.line kinds.native t.parted (kind_is e)) refl))
      also (λ e. no_below kinds.inasset (omega arith) (omega arith) e (rw (parts t.line kinds.inasset t.parted (kind_is e)) refl))
      also (λ e. no_below kinds.now (omega arith) (omega arith) e (rw (parts t.line kinds.now t.parted (kind_is e)) refl))
      also (λ e. let q = un_at d h e in one_below _ q.0 refl q.1 (rw (parts t.line kinds.un t.parted (kind_is e)) refl))
      also (λ e. two_below e (rw (parts t.line kinds.bin t.parted (kind_is e)) refl))
      also (λ e. let q = dot_at_lem d h e in one_below _ q.0 refl q.1 (rw (parts t.line kinds.dot t.parted (kind_is e)) refl))
      also (λ e. let g = parts t.line kinds.call t.parted (kind_is e) in call_below g.0 e (rw (g.1, append-nil) refl) (rw (t.says.second, g.1) refl))
      also (λ e. wrap_below kinds.checked (omega arith) e (rw (parts t.line kinds.checked t.parted (kind_is e)) refl))
      also (λ e. wrap_below kinds.wrapping (omega arith) e (rw (parts t.line kinds.wrapping t.parted (kind_is e)) refl))
      also end')
      h.kind.0 h.kind.1 refl

-- ------------------------------------------------------------ line by line

module _ {s S : List ℕ} (d : Loaded s S) where
  -- expressions of a row, and one expression
  pub left_row : {m i : ℕ} → Row S grammar.Expr m i → Left s S i (skip S m i) (exprs_at s m i)
  left_row {m} r = record { count = m; row = r; ends = refl; are = refl }

  pub left_one : {i : ℕ} → Here S grammar.Expr i → Left s S i (end_at S i) (more (expr_at s i) nil)
  unfolding skip
  left_one {i} h =
      record { count = 1; row = next h stop; ends = refl; are = exprs_next d 0 i h.within ∙ rw (no_exprs s (end_at S i)) refl }

  -- some behind others
  pub left_join : {i j end : ℕ} {es fs : Exprs} → Left s S i j es → Left s S j end fs → Left s S i end (joined es fs)
  left_join {i} {j} {end} a b =
      let r : Row S grammar.Expr b.count (skip S a.count i) = rw a.ends b.row in
      record {
        count = a.count + b.count;
        row = row_join a.row r;
        ends = skip_add S a.count b.count i ∙ rw a.ends b.ends;
        are = exprs_join b.count d a.row ∙ rw (a.are, a.ends, b.are) refl;
      }

  -- nothing is left
  pub left_over : {i end : ℕ} {es : Exprs} → Left s S i end es → end ≤ i → es ≡ nil
  left_over {i} {end} {es} l h = by_cases l.count l.row l.ends l.are
    where
      by_cases : (k : ℕ) → Row S grammar.Expr k i → skip S k i ≡ end → exprs_at s k i ≡ es → es ≡ nil
      by_cases zero r e q = sym q ∙ no_exprs s i
      by_cases (suc k) r e q = absurd (let z = skip_least r in omega (arith, e, h, z))

  left_some : {i end : ℕ} {e : Expr} {es : Exprs} → Left s S i end (more e es) → i < end
  left_some {i} {end} {e} {es} l = by_cases l.count l.row l.ends l.are
    where
      by_cases : (k : ℕ) → Row S grammar.Expr k i → skip S k i ≡ end → exprs_at s k i ≡ more e es → i < end
      by_cases zero r q f = absurd (let z : nil ≡ more e es = sym (no_exprs s i) ∙ f in (let w : ◌≡◌ {A = ℕ} 0 1 = cc in omega arith))
      by_cases (suc k) r q f = let z = skip_least r in omega (arith, q, z)

  -- the expression at the first line left, and those behind it
  pub record At (i end : ℕ) (es : Exprs) : Type 0 where
    pub rest : Exprs
    pub here : Here S grammar.Expr i
    pub is : es ≡ more (expr_at s i) rest
    pub behind : Left s S (end_at S i) end rest
    pub inside : Left s S (suc i) end (joined (parts_of (expr_at s i)) rest)

  pub left_at_lem : {i end : ℕ} {es : Exprs} → Left s S i end es → i < end → At i end es
  unfolding skip
  left_at_lem {i} {end} {es} l h = by_cases l.count l.row l.ends l.are
    where
      by_cases : (k : ℕ) → Row S grammar.Expr k i → skip S k i ≡ end → exprs_at s k i ≡ es → At i end es
      by_cases zero r e q = absurd (omega (arith, e))
      by_cases (suc k) r e q =
          let x = row_first r in
          let b : Left s S (end_at S i) end (exprs_at s k (end_at S i)) = record { count = k; row = row_rest r; ends = e; are = refl } in
          record {
            rest = exprs_at s k (end_at S i);
            here = x;
            is = sym q ∙ exprs_next d k i x.within;
            behind = b;
            inside = left_join (below d x) b;
          }

  -- a call's arguments, without its callee
  pub left_args : {i end : ℕ} {es : Exprs} (a : At i end es) → kind_at S i ≡ kinds.call → Left s S (end_at S (suc i)) end (joined (exprs_at s (call_arg_count S i) (end_at S (suc i))) a.rest)
  unfolding parts_of joined
  left_args {i} a e =
      let q = call_at_lem d a.here e in
      let l : Left s S (suc i) _ (more (expr_at s (suc i)) (joined (exprs_at s (call_arg_count S i) (end_at S (suc i))) a.rest)) = rw q.0 at a.inside in
      let x = left_at_lem l (left_some l) in
      let y : x.rest ≡ joined (exprs_at s (call_arg_count S i) (end_at S (suc i))) a.rest = cc x.is in
      rw (← y) x.behind

-- ------------------------------------------------------------ the lines of one expression

module _ {s S : List ℕ} (d : Loaded s S) where
  -- each line from i up to end is that of an expression
  left_here : (k : ℕ) {i end : ℕ} {es : Exprs} → Left s S i end es → i + k < end → Here S grammar.Expr (i + k)
  left_here zero {i} l h = rw (let e : i + 0 ≡ i = omega arith in e) (left_at_lem d l (omega arith)).here
  left_here (suc k) {i} l h =
      let e : i + suc k ≡ suc i + k = omega arith in
      rw e (left_here k (left_at_lem d l (omega arith)).inside (omega arith))

  pub here_inside : {i : ℕ} (l : ℕ) → Here S grammar.Expr i → i ≤ l → l < end_at S i → Here S grammar.Expr l
  here_inside {i} l h a b =
      let e : i + (l - i) ≡ l = omega arith in
      rw e at (left_here (l - i) (left_one d h) (omega arith))

  pub placed_at : {i : ℕ} → Here S grammar.Expr i → Placed i (end_at S i) (expr_at s i)
  unfolding expr_at
  placed_at {i} h =
      let t = stands d i h.within in
      rw t.here (expr (formed (rw (← t.says.kind) h.kind) t.parted t.formed) refl (held h.within t.says t.held))
