-- Calls that make an asset, line by line. Assumes nothing.
use mathlib.Core.Logic.{◌≢◌}
use mathlib.Core.Path.{◌≡◌, refl, sym, ap, ◌∙◌}
use mathlib.Core.List.{List}
use mathlib.Core.Bool.{Bool, true, false, not, ◌&&◌, ◌||◌, or-false}
use Prim.Native.Nat.{ℕ, suc, ◌+◌, ◌<◌, ◌≤◌}
use native.Mathlib.Numerals.{add-one}
use native.Mathlib.Omega.{arith}
use lib.Dec.{eqb}
use borrow.Author.Tests.{ne_eqb, eqb-true}
use Rattle.std.specs.Prelude.{Ok, Err}
use Rattle.text.specs.Text.{bytes, same}
use Rattle.grammar.specs.Grammar as grammar
use Rattle.sheet.specs.Scratch.{kind_at, end_at, name_at}
use Rattle.sheet.specs.Say.{span_at}
use Rattle.rules.proofs.Binding.{kept_assoc, kept_behind, kept_unit}
use Rattle.rules.specs.Text.{Name, is}
use Rattle.rules.specs.Ast.{Expr, leaf, unary, binary, field, call, wrap, Exprs, nil, more, leaf_of}
use Rattle.rules.specs.Asking.{refused, ◌>>=◌, ◌>>◌, expect}
use Rattle.rules.specs.Kept.{Table, kept}
use Rattle.rules.specs.Typing.{ident_leaf, ident_is, ident_of, dot_of, call_of}
use Rattle.rules.specs.Assets.{makes_asset, dropped_text, no_asset_call, no_asset_calls}
use Rattle.rules.specs.Standing.{expr_at, Loaded, Here}
use Rattle.rules.proofs.Exprs.{leaf_at, by_kind, call_at_lem, is-call_at}
use Rattle.rules.proofs.Forest.{joined, parts_of}
use Rattle.rules.proofs.Walks as walks
use Rattle.rules.proofs.Walks.{Walk, walk_one, walk_line, walk_inside}
use Rattle.rules.proofs.Parts.{stop, ◌also◌, pick}
use Rattle.rules.proofs.Records.{placed}
use Rattle.rules.proofs.Standing.{row_first}
use Rattle.refusals.specs.Answers.{Answers}
use Rattle.refusals.specs.Refusal.{refusal_of, done_of}
use Rattle.refusals.specs.declared.refusal.Refusal.TheVariants.{Dropped}
use Rattle.refusals.proofs.Answers.{misfits, then_refused}
use Rattle.assets.specs.Made.{is_asset_call}
use Rattle.grammar.specs.Kinds as kinds

-- ------------------------------------------------------------ expressions one behind another

joined_walked : (es fs : Exprs) (T : Table) → kept (no_asset_calls (joined es fs)) T ≡ kept (no_asset_calls es >> no_asset_calls fs) T
unfolding joined no_asset_calls ◌>>◌ ◌>>=◌
joined_walked nil fs T = refl
joined_walked (more e es) fs T =
    kept_behind (no_asset_call e) (λ _. no_asset_calls (joined es fs)) (λ _. no_asset_calls es >> no_asset_calls fs) T (λ _. joined_walked es fs)
    ∙ sym (kept_assoc (λ _. no_asset_calls es) (λ _. no_asset_calls fs) (no_asset_call e) T)

-- what is walked behind an expression that is no asset call: its parts, and then the rest
walked_in : (e : Expr) (rest : Exprs) → is_asset_call e ≡ false → (T : Table) → kept (no_asset_calls (more e rest)) T ≡ kept (no_asset_calls (joined (parts_of e) rest)) T
unfolding joined parts_of no_asset_call no_asset_calls ◌>>◌ ◌>>=◌ is_asset_call call_of expect
walked_in (leaf l s k) rest h T = refl
walked_in (unary l s o e) rest h T = refl
walked_in (binary l s o a b) rest h T = kept_assoc (λ _. no_asset_call b) (λ _. no_asset_calls rest) (no_asset_call a) T
walked_in (field l s e n m) rest h T = refl
walked_in (call l s c es) rest h T =
    rw h (kept_assoc (λ _. no_asset_calls es) (λ _. no_asset_calls rest) (no_asset_call c) T
    ∙ kept_behind (no_asset_call c) (λ _. no_asset_calls es >> no_asset_calls rest) (λ _. no_asset_calls (joined es rest)) T (λ _ U. sym (joined_walked es rest U)))
walked_in (wrap l s w e) rest h T = refl

dropped : (l s : ℕ) (c : Expr) (es : Exprs) → makes_asset c ≡ true → Answers (no_asset_call (call l s c es)) (refused (record { number = 44; place = s; text = dropped_text }))
unfolding no_asset_call
dropped l s c es h = then_refused _ _ _ (then_refused _ _ _ (misfits (not (makes_asset c)) 44 s dropped_text (rw h refl)))

-- ------------------------------------------------------------ one line

-- What `makes_asset` meets: whether the callee is a `dot` or an `id`, and whether its name is either word.
pub makes_asset_lem : (s S : List ℕ) (i : ℕ) (x : Name) (t n v w : Bool) → Loaded s S → Here S grammar.Expr i → x ≡ name_at s S i → t ≡ eqb (kind_at S i) kinds.dot → v ≡ same x (bytes "split")
    → n ≡ eqb (kind_at S i) kinds.id → w ≡ same x (bytes "mint") → ((t && v) || (n && w)) ≡ makes_asset (expr_at s i)
unfolding makes_asset ident_is ident_of leaf_of ident_leaf dot_of is
makes_asset_lem s S i x t m v w d h n a f b g =
    rw (a, b)
    (by_kind d h (λ k e. ((eqb k kinds.dot && v) || (eqb k kinds.id && w)) ≡ makes_asset e)
    (λ k a b.
    pick {P = λ k. ((eqb k kinds.dot && v) || (eqb k kinds.id && w)) ≡ makes_asset (leaf i (span_at s S i) (leaf_at k (name_at s S i)))} {i = kinds.int} {n = 8} k
    (refl also (g ∙ ap (λ y. same y (bytes "mint")) n) also refl also refl also refl also refl also refl also refl also stop) a b)
    refl refl
    (or-false v ∙ f ∙ ap (λ y. same y (bytes "split")) n)
    refl
    (λ k w a. rw (ne_eqb k kinds.dot (omega arith), ne_eqb k kinds.id (omega arith)) refl))

-- What `is_asset_call` meets.
module _ (s S : List ℕ) (i : ℕ) (d : Loaded s S) (h : Here S grammar.Expr i) where
  pub no_call : kind_at S i ≢ kinds.call → false ≡ is_asset_call (expr_at s i)
  unfolding is_asset_call
  no_call q = rw (is_asset_call, is-call_at d h, ne_eqb (kind_at S i) kinds.call q) refl

  pub callee_here : kind_at S i ≡ kinds.call → Here S grammar.Expr (i + 1)
  callee_here q = rw add-one (row_first (call_at_lem d h q).1)

  pub a_call : (r : Bool) → kind_at S i ≡ kinds.call → r ≡ makes_asset (expr_at s (i + 1)) → r ≡ is_asset_call (expr_at s i)
  unfolding is_asset_call
  a_call r q f = f ∙ rw (is_asset_call, is-call_at d h, q, add-one) refl

-- an asset call is refused, and is a `call` record
refused_here : (s S : List ℕ) (i : ℕ) → Loaded s S → Here S grammar.Expr i → is_asset_call (expr_at s i) ≡ true → Answers (no_asset_call (expr_at s i)) (done_of s (Err (Dropped i)))
unfolding done_of refusal_of is_asset_call call_of
refused_here s S i d h q = by_cases (eqb (kind_at S i) kinds.call) refl
  where
    by_cases : (b : Bool) → eqb (kind_at S i) kinds.call ≡ b → Answers (no_asset_call (expr_at s i)) (done_of s (Err (Dropped i)))
    by_cases true f =
        let e = eqb-true (kind_at S i) kinds.call f in
        let c = call_at_lem d h e in
        rw (c.0, placed d h.within kinds.call _ e refl) (dropped i (span_at s S i) (expr_at s (suc i)) _ (rw c.0 at q))
    by_cases false f = absurd (let z : ◌≡◌ {A = Bool} true false = sym q ∙ rw (is_asset_call, is-call_at d h, f) refl in (let y : ◌≡◌ {A = ℕ} 0 1 = cc in omega arith))

-- ------------------------------------------------------------ the walk

-- what is left at line at is what is walked of the expression at line i
abbrev pub Walking : (s S : List ℕ) → (i end at : ℕ) → Type 0
Walking s S i end at = Walk s S (λ es. (T : Table) → kept (no_asset_call (expr_at s i)) T ≡ kept (no_asset_calls es) T) end at

pub walk_start : (s S : List ℕ) (i end : ℕ) → Loaded s S → Here S grammar.Expr i → end ≡ end_at S i → Walking s S i end i
unfolding no_asset_calls ◌>>◌
walk_start s S i end d h e = walk_one d h e (λ T. sym (kept_unit (no_asset_call (expr_at s i)) T))

module _ (s S : List ℕ) (i end at : ℕ) (w : Walking s S i end at) where
  pub walk_over : end ≤ at → Answers (no_asset_call (expr_at s i)) (done_of s (Ok tt))
  unfolding no_asset_calls done_of kept
  walk_over h = record { answers = walks.walk_over w h }

  module _ (h : at < end) (b : Bool) (e : b ≡ is_asset_call (expr_at s at)) where
    pub walk_found : b ≡ true → Answers (no_asset_call (expr_at s i)) (done_of s (Err (Dropped at)))
    unfolding no_asset_calls done_of
    walk_found q =
        walks.walk_found w h
        (λ es z. record { answers = λ T. z T ∙ (then_refused _ (no_asset_calls es) (refusal_of s (Dropped at)) (refused_here s S at w.loaded (walk_line w h) (sym e ∙ q))).answers T })

    pub walk_next : b ≡ false → Walking s S i end (at + 1)
    walk_next q = walk_inside w h (λ es z T. z T ∙ walked_in (expr_at s at) es (sym e ∙ q) T)
