-- `judge_assign`: what each return needs. Assumes nothing.
use mathlib.Core.Logic.{◌⊎◌, inl, inr}
use mathlib.Core.Path.{◌≡◌, refl, sym, ap, ◌∙◌}
use mathlib.Core.List.{List}
use mathlib.Core.Bool.{Bool, true, false, true≢false, cond, not, ◌&&◌, and-eq-true_iff, or-false}
use Prim.Native.Nat.{ℕ}
use native.Mathlib.Omega.{arith}
use lib.Dec.{eqb, leb}
use borrow.Author.Tests.{ne_eqb, not-true, not-false}
use Rattle.std.specs.Prelude.{Result, Ok, Err, Option, Some, None, is_some, unwrap_or}
use Rattle.grammar.specs.Grammar as grammar
use Rattle.sheet.specs.Scratch.{kind_at, name_at}
use Rattle.rules.specs.Text.{Name}
use Rattle.sheet.specs.Tree.{node}
use Rattle.rules.specs.Ast.{Expr, span, span_of, expr_of}
use Rattle.rules.specs.Asking.{Res, ok, refused, Rule, ◌>>◌, expect, if_some}
use Rattle.rules.specs.declared.ty.Ty.TheVariants.{Address, Asset, Name as TName}
use Rattle.rules.specs.Kept.{Table}
use Rattle.rules.specs.Types.{parse_u128, int_of, eq_ty}
use Rattle.rules.specs.Typing as typing
use Rattle.rules.specs.Typing.{ident_of}
use Rattle.rules.specs.Statements.{narrow_field, is_set, is_address_field, name_into_address, is_checked, is_wrapping, wrapping_into_narrow, literal_into_narrow, literal_text, slot_fits, slot_text, asset_slot_text, judge_assign}
use Rattle.rules.specs.Standing.{node_span, named_at, place_at, expr_at, model_in, Loaded, Here}
use Rattle.rules.proofs.Exprs.{int_at, ident_at}
use Rattle.rules.proofs.Parts.{stop, ◌also◌, pick}
use Rattle.rules.proofs.Records.{named}
use Rattle.rules.proofs.Standing.{stands, loaded_sheet}
use Rattle.refusals.specs.Answers.{Answers, expected}
use Rattle.refusals.specs.Refusal.{number_in, refusal_of, done_of}
use Rattle.refusals.specs.declared.refusal.Refusal.{Refusal}
use Rattle.refusals.specs.declared.refusal.Refusal.TheVariants.{AssetSlot, NameIntoAddress, WrappingIntoNarrow, LiteralIntoNarrow, SlotMismatch}
use Rattle.refusals.proofs.Answers.{expects, gives, then_fine, then_refused, fits, misfits, passes, refuses}
use denote.Enum.Bare.{sameb}
use Rattle.rules.specs.contracts.ty.Ty.{the_type}
use Rattle.rules.proofs.Same.{told_ty}
use Rattle.rules.specs.Operators.{assign_meant}
use Rattle.lookups.proofs.Literals.{literal_at_lem}
use Rattle.env.specs.Force.{env_of}
use Rattle.env.specs.declared.env.Env.{Env}
use Rattle.narrow.specs.Narrow.{exceeds_of}
use Rattle.statements.specs.declared.assign.Assignment.{Assignment}
use Rattle.statements.specs.Assigned.{bare_at, TargetAt, AssignAt, becomes_address, narrow_at, is_above, judge_narrow, FitsSlot, JudgesAssign}
use Rattle.grammar.specs.Kinds as kinds

-- ------------------------------------------------------------ an expression's line

module _ {s S : List ℕ} (d : Loaded s S) {i : ℕ} (h : Here S grammar.Expr i) where
  -- whether it is `wrapping`, and its span
  told : (is_wrapping (expr_at s i) ≡ eqb (kind_at S i) kinds.wrapping) × (span (expr_at s i) ≡ place_at s i)
  unfolding expr_at expr_of is_wrapping is_checked place_at node_span span
  told =
      let t = stands d i h.within in
      rw t.here
      (pick {P = λ k. t.line.kind ≡ k → (is_wrapping (expr_of (node i t.line t.parts)) ≡ eqb k kinds.wrapping) × (span (expr_of (node i t.line t.parts)) ≡ span_of t.line)} {i = kinds.int} {n = 14} (kind_at S i)
      ((λ e. rw e (refl, refl))
      also (λ e. rw e (refl, refl))
      also (λ e. rw e (refl, refl))
      also (λ e. rw e (refl, refl))
      also (λ e. rw e (refl, refl))
      also (λ e. rw e (refl, refl))
      also (λ e. rw e (refl, refl))
      also (λ e. rw e (refl, refl))
      also (λ e. rw e (refl, refl))
      also (λ e. rw e (refl, refl))
      also (λ e. rw e (refl, refl))
      also (λ e. rw e (refl, refl))
      also (λ e. rw e (refl, refl))
      also (λ e. rw e (refl, refl))
      also stop)
      h.kind.0 h.kind.1 (sym t.says.kind))

  pub target_at : TargetAt s S i (expr_at s i)
  unfolding bare_at
  target_at =
      record {
        place = told.1;
        ident = ident_at d h ∙ rw (named d h.within, ne_eqb (kind_at S i) kinds.field (λ e. omega (arith, h.kind.0)), or-false (eqb (kind_at S i) kinds.id)) refl;
      }

-- ------------------------------------------------------------ rules of a bare name

module _ (o : Option Name) (b : Bool) (x : Name) (f : Name → Rule Unit) (q : o ≡ cond b (Some x) None) where
  if_fine : (b ≡ true → Answers (f x) (ok tt)) → Answers (if_some o f) (ok tt)
  unfolding if_some
  if_fine h = by_cases b q h
    where
      by_cases : (b : Bool) → o ≡ cond b (Some x) None → (b ≡ true → Answers (f x) (ok tt)) → Answers (if_some o f) (ok tt)
      by_cases true e k = rw e (k refl)
      by_cases false e k = rw e (gives tt)

  if_named : (r : Res Unit) → b ≡ true → Answers (f x) r → Answers (if_some o f) r
  unfolding if_some
  if_named r e h = rw (q, e) h

-- the rule of a literal y for a slot whose largest number is m
module _ (y : Name) (m at : ℕ) (x : Name) where
  abbrev of_literal : Rule Unit
  of_literal = if_some (parse_u128 y) λ literal. expect (leb literal m) 27 at (literal_text x literal m)

  below : exceeds_of y m ≡ false → Answers of_literal (ok tt)
  unfolding exceeds_of if_some
  below = by_cases (parse_u128 y)
    where
      by_cases : (o : Option ℕ) → elim o as (λ _. Bool) [ None ↦ false | Some n ↦ not (leb n m) ] ≡ false → Answers (if_some o λ literal. expect (leb literal m) 27 at (literal_text x literal m)) (ok tt)
      by_cases None e = gives tt
      by_cases (Some n) e = fits (leb n m) 27 at _ (not-false (leb n m) e)

  above : exceeds_of y m ≡ true → Answers of_literal (refused (record { number = 27; place = at; text = literal_text x (unwrap_or (parse_u128 y) 0) m }))
  unfolding exceeds_of if_some
  above = by_cases (parse_u128 y)
    where
      by_cases : (o : Option ℕ) → elim o as (λ _. Bool) [ None ↦ false | Some n ↦ not (leb n m) ] ≡ true
          → Answers (if_some o λ literal. expect (leb literal m) 27 at (literal_text x literal m)) (refused (record { number = 27; place = at; text = literal_text x (unwrap_or o 0) m }))
      by_cases None e = absurd (true≢false (sym e))
      by_cases (Some n) e = misfits (leb n m) 27 at _ (not-true (leb n m) e)

-- ... for a slot that may be narrow
module _ (o : Option ℕ) (y : Name) (at : ℕ) (x : Name) where
  abbrev of_slot : Rule Unit
  of_slot = if_some o λ max. of_literal y max at x

  slot_below : ((m : ℕ) → o ≡ Some m → exceeds_of y m ≡ false) → Answers of_slot (ok tt)
  unfolding if_some
  slot_below f = by_cases o refl
    where
      by_cases : (p : Option ℕ) → o ≡ p → Answers of_slot (ok tt)
      by_cases None z = rw z (gives tt)
      by_cases (Some m) z = rw z (below y m at x (f m z))

  slot_above : (m : ℕ) → o ≡ Some m → exceeds_of y m ≡ true
      → Answers of_slot (refused (record { number = 27; place = at; text = literal_text x (unwrap_or (parse_u128 y) 0) m }))
  unfolding if_some
  slot_above m z f = rw z (above y m at x f)

-- what `judge_narrow` tells by whether the target is a bare name, its largest number, whether the value wraps, and what it is above
module _ (target value : ℕ) (above : ℕ → Bool) where
  abbrev answer : (b : Bool) (o : Option ℕ) (w : Bool) → Result Unit Refusal
  answer b o w =
      elim (cond b o None) [
        | None ↦ Ok tt
        | Some max ↦ cond w (Err (WrappingIntoNarrow target value)) (expected (not (above max)) (LiteralIntoNarrow target value max))
      ]

  no_wrapping : (b : Bool) (o : Option ℕ) (w : Bool) → answer b o w ≡ Ok tt → b ≡ true → (is_some o && w) ≡ false
  no_wrapping true None w e q = refl
  no_wrapping true (Some m) true e q = absurd (let z : ◌≡◌ {A = ℕ} 0 1 = cc in omega arith)
  no_wrapping true (Some m) false e q = refl
  no_wrapping false o w e q = absurd (true≢false (sym q))

  none_above : (b : Bool) (o : Option ℕ) (w : Bool) → answer b o w ≡ Ok tt → b ≡ true → (m : ℕ) → o ≡ Some m → above m ≡ false
  unfolding expected
  none_above b o true e q m z = absurd (let y : Err (WrappingIntoNarrow target value) ≡ Ok tt = sym (rw (q, z) refl) ∙ e in let x : ◌≡◌ {A = ℕ} 0 1 = cc in omega arith)
  none_above b o false e q m z = by_cases (above m) refl
    where
      by_cases : (t : Bool) → above m ≡ t → t ≡ false
      by_cases true f = absurd (let y : Err (LiteralIntoNarrow target value m) ≡ Ok tt = sym (rw (q, z, f) refl) ∙ e in let x : ◌≡◌ {A = ℕ} 0 1 = cc in omega arith)
      by_cases false f = refl

  -- why it refuses
  pub record Refuses (b : Bool) (o : Option ℕ) (w : Bool) (why : Refusal) : Type 0 where
    pub is-bare : b ≡ true
    pub max : ℕ
    pub is-max : o ≡ Some max
    pub by : ((w ≡ true) × (why ≡ WrappingIntoNarrow target value)) ⊎ ((w ≡ false) × (above max ≡ true) × (why ≡ LiteralIntoNarrow target value max))

  why_refused : (b : Bool) (o : Option ℕ) (w : Bool) (why : Refusal) → answer b o w ≡ Err why → Refuses b o w why
  unfolding expected
  why_refused false o w why e = absurd (let z : ◌≡◌ {A = ℕ} 0 1 = cc in omega arith)
  why_refused true None w why e = absurd (let z : ◌≡◌ {A = ℕ} 0 1 = cc in omega arith)
  why_refused true (Some m) true why e = record { is-bare = refl; max = m; is-max = refl; by = inl (refl, cc) }
  why_refused true (Some m) false why e = by_cases (above m) refl
    where
      by_cases : (t : Bool) → above m ≡ t → Refuses true (Some m) false why
      by_cases true f =
          let y : Err (LiteralIntoNarrow target value m) ≡ Err why = sym (rw f refl) ∙ e in
          record { is-bare = refl; max = m; is-max = refl; by = inr (refl, f, cc) }
      by_cases false f = absurd (let y : ◌≡◌ {A = Result Unit Refusal} (Ok tt) (Err why) = sym (rw f refl) ∙ e in let x : ◌≡◌ {A = ℕ} 0 1 = cc in omega arith)

-- ------------------------------------------------------------ rule by rule

-- The target e is that of its line.
module _ (s S : List ℕ) (env : Env) (a : Assignment) (loaded : Loaded s S) (h : AssignAt S a.target a.value) (T : Table) (e : Expr) (p : TargetAt s S a.target e) where
  abbrev Γ : typing.Env
  Γ = env_of s T env

  abbrev given : Expr
  given = expr_at s a.value

  name-is : named_at s a.target ≡ name_at s S a.target
  name-is = named loaded h.within

  -- 24
  past_asset : (q : Rule Unit) (r : Res Unit) → eq_ty a.slot Asset ≡ false → Answers q r → Answers (expect (not (eq_ty a.slot Asset)) 24 (span e) asset_slot_text >> q) r
  past_asset q r n j = passes (not (eq_ty a.slot Asset)) 24 (span e) asset_slot_text q r (rw n refl) j

  -- 25
  abbrev name_rule : Rule Unit
  name_rule = if_some (ident_of e) λ x. name_into_address Γ (assign_meant a.op) x given a.slot a.given

  address_test : bare_at S a.target ≡ true
      → (is_set (assign_meant a.op) && eq_ty a.given TName && eq_ty a.slot Address && is_address_field (model_in s) (named_at s a.target)) ≡ becomes_address s S a
  unfolding becomes_address
  address_test b = rw (b, name-is) refl

  name_fine : becomes_address s S a ≡ false → Answers name_rule (ok tt)
  unfolding name_into_address env_of
  name_fine f = if_fine (ident_of e) (bare_at S a.target) (named_at s a.target) _ p.ident (λ b. fits _ 25 _ _ (rw (address_test b, f) refl))

  name_no : becomes_address s S a ≡ true → Answers name_rule (refused (refusal_of s (NameIntoAddress a.target a.value)))
  unfolding name_into_address env_of refusal_of becomes_address
  name_no f =
      let b = ((and-eq-true_iff (bare_at S a.target) _).0 f).0 in
      if_named (ident_of e) (bare_at S a.target) (named_at s a.target) _ p.ident _ b (misfits _ 25 _ _ (rw (address_test b, b, ((and-eq-true_iff (bare_at S a.target) _).0 f).1) refl))

  past_name : (q : Rule Unit) (r : Res Unit) → eq_ty a.slot Asset ≡ false → becomes_address s S a ≡ false → Answers q r
      → Answers (expect (not (eq_ty a.slot Asset)) 24 (span e) asset_slot_text >> (name_rule >> q)) r
  past_name q r n f j = past_asset _ r n (then_fine name_rule q tt r (name_fine f) j)

  -- 26 and 27
  abbrev field : Option ℕ
  field = narrow_field (model_in s) (named_at s a.target)

  abbrev is-wrapped : Bool
  is-wrapped = eqb (kind_at S a.value) kinds.wrapping

  narrow_told : judge_narrow s S a.target a.value ≡ answer a.target a.value (is_above s S a.value) (bare_at S a.target) field is-wrapped
  unfolding judge_narrow narrow_at
  narrow_told = rw (judge_narrow, name-is) refl

  abbrev wrap_rule : Rule Unit
  wrap_rule = if_some (ident_of e) λ x. wrapping_into_narrow Γ x given

  wrap_fine : (bare_at S a.target ≡ true → (is_some field && is-wrapped) ≡ false) → Answers wrap_rule (ok tt)
  unfolding wrapping_into_narrow env_of
  wrap_fine f =
      if_fine (ident_of e) (bare_at S a.target) (named_at s a.target) _ p.ident (λ b. fits _ 26 _ _ (rw ((told loaded h.here).0, f b) refl))

  wrap_no : bare_at S a.target ≡ true → (is_some field && is-wrapped) ≡ true → Answers wrap_rule (refused (refusal_of s (WrappingIntoNarrow a.target a.value)))
  unfolding wrapping_into_narrow env_of refusal_of
  wrap_no b f =
      if_named (ident_of e) (bare_at S a.target) (named_at s a.target) _ p.ident _ b (misfits _ 26 _ _ (rw ((told loaded h.here).0, f) refl))

  abbrev literal_rule : Rule Unit
  literal_rule = if_some (ident_of e) λ x. literal_into_narrow Γ x given

  -- the literal, if any
  text_is : int_of given ≡ cond (eqb (kind_at S a.value) kinds.int) (Some (name_at s S a.value)) None
  text_is = int_at loaded h.here

  literal_fine : (bare_at S a.target ≡ true → (m : ℕ) → field ≡ Some m → is_above s S a.value m ≡ false) → Answers literal_rule (ok tt)
  unfolding literal_into_narrow env_of is_above
  literal_fine f =
      if_fine (ident_of e) (bare_at S a.target) (named_at s a.target) _ p.ident
      (λ b. if_fine (int_of given) (eqb (kind_at S a.value) kinds.int) (name_at s S a.value) _ text_is
      (λ y. slot_below field (name_at s S a.value) _ _ (λ m z. rw y at (f b m z))))

  literal_no : (m : ℕ) → bare_at S a.target ≡ true → field ≡ Some m → is_above s S a.value m ≡ true → Answers literal_rule (refused (refusal_of s (LiteralIntoNarrow a.target a.value m)))
  unfolding literal_into_narrow env_of is_above refusal_of number_in
  literal_no m b z f =
      let y = ((and-eq-true_iff (eqb (kind_at S a.value) kinds.int) _).0 f).0 in
      if_named (ident_of e) (bare_at S a.target) (named_at s a.target) _ p.ident _ b
      (if_named (int_of given) (eqb (kind_at S a.value) kinds.int) (name_at s S a.value) _ text_is _ y
      (rw (literal_at_lem loaded a.value, y) (slot_above field (name_at s S a.value) _ _ m z (rw y at f))))

  narrow_fine : (q : Rule Unit) (r : Res Unit) → judge_narrow s S a.target a.value ≡ Ok tt → Answers q r → Answers (wrap_rule >> (literal_rule >> q)) r
  narrow_fine q r f j =
      let g = sym narrow_told ∙ f in
      then_fine wrap_rule _ tt r (wrap_fine (no_wrapping _ _ _ (bare_at S a.target) field is-wrapped g))
      (then_fine literal_rule q tt r (literal_fine (none_above _ _ _ (bare_at S a.target) field is-wrapped g)) j)

  some_field : (m : ℕ) → field ≡ Some m → is_some field ≡ true
  some_field m z = rw z refl

  narrow_no : (q : Rule Unit) (why : Refusal) → judge_narrow s S a.target a.value ≡ Err why → Answers (wrap_rule >> (literal_rule >> q)) (refused (refusal_of s why))
  narrow_no q why f = by_cases n.by
    where
      n : Refuses a.target a.value (is_above s S a.value) (bare_at S a.target) field is-wrapped why
      n = why_refused a.target a.value (is_above s S a.value) (bare_at S a.target) field is-wrapped why (sym narrow_told ∙ f)

      by_cases : ((is-wrapped ≡ true) × (why ≡ WrappingIntoNarrow a.target a.value)) ⊎ ((is-wrapped ≡ false) × (is_above s S a.value n.max ≡ true) × (why ≡ LiteralIntoNarrow a.target a.value n.max))
          → Answers (wrap_rule >> (literal_rule >> q)) (refused (refusal_of s why))
      by_cases (inl z) = rw z.1 (then_refused wrap_rule _ _ (wrap_no n.is-bare (rw (some_field n.max n.is-max, z.0) refl)))
      by_cases (inr z) =
          rw z.2
          (then_fine wrap_rule _ tt _ (wrap_fine (λ b. rw (some_field n.max n.is-max, z.0) refl)) (then_refused literal_rule q _ (literal_no n.max n.is-bare n.is-max z.1)))

-- ------------------------------------------------------------ return by return

module _ (s S : List ℕ) (env : Env) (a : Assignment) (loaded : Loaded s S) (h : AssignAt S a.target a.value) (x : Bool) (k : x ≡ sameb the_type a.slot Asset) where
  pub asset_wrong : x ≡ true → JudgesAssign s S env a (Err (AssetSlot a.target))
  unfolding judge_assign done_of refusal_of
  asset_wrong q =
      record { judged = λ T e p. rw (← p.place) (refuses (not (eq_ty a.slot Asset)) 24 (span e) asset_slot_text _ (rw (← told_ty a.slot Asset x k, q) refl)) }

  module _ (n : x ≡ false) (b : Bool) (y : b ≡ becomes_address s S a) where
    no_asset : eq_ty a.slot Asset ≡ false
    no_asset = sym (told_ty a.slot Asset x k) ∙ n

    pub address_wrong : b ≡ true → JudgesAssign s S env a (Err (NameIntoAddress a.target a.value))
    unfolding judge_assign done_of
    address_wrong f =
        record {
          judged = λ T e p.
              past_asset s S env a loaded h T e p _ _ no_asset (then_refused _ _ _ (name_no s S env a loaded h T e p (sym y ∙ f)));
        }

    module _ (r : Result Unit Refusal) (nb : b ≡ false) (q : r ≡ judge_narrow s S a.target a.value) where
      pub narrow_wrong : (why : Refusal) → r ≡ Err why → JudgesAssign s S env a (Err why)
      unfolding judge_assign done_of
      narrow_wrong why f =
          record {
            judged = λ T e p.
                past_name s S env a loaded h T e p _ _ no_asset (sym y ∙ nb) (narrow_no s S env a loaded h T e p _ why (sym q ∙ f));
          }

      module _ (g : Bool) (nr : r ≡ Ok tt) (w : FitsSlot s env a g) where
        -- only the last test is left
        all_past : (T : Table) (e : Expr) (p : TargetAt s S a.target e) (v : Res Unit)
            → Answers (expect (slot_fits (env_of s T env) (assign_meant a.op) (expr_at s a.value) a.slot a.given) 28 (span (expr_at s a.value)) (slot_text a.slot a.given)) v
            → Answers (judge_assign (env_of s T env) (assign_meant a.op) e (expr_at s a.value) a.slot a.given) v
        unfolding judge_assign
        all_past T e p v j =
            past_name s S env a loaded h T e p _ _ no_asset (sym y ∙ nb) (narrow_fine s S env a loaded h T e p _ v (sym q ∙ nr) j)

        pub slot_judged : (v : Result Unit Refusal) → v ≡ expected g (SlotMismatch a.value a.slot a.given) → JudgesAssign s S env a v
        unfolding refusal_of
        slot_judged v f =
            record {
              judged = λ T e p. all_past T e p _ (expects s _ (SlotMismatch a.value a.slot a.given) v (f ∙ ap (λ k. expected k (SlotMismatch a.value a.slot a.given)) (w.fits T)));
            }

pub ruleset laws_judged = (loaded_sheet, asset_wrong, address_wrong, narrow_wrong, slot_judged)
