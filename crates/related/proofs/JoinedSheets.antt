-- Request 14: two sheets that are accepted, the lines of each foreign to the other (`Foreign`), and one with a `contract` line and the
-- lines of both behind it. Assumes nothing.
use mathlib.Core.Path.{◌≡◌, sym, ap, ◌∙◌}
use mathlib.Core.Logic.{◌⊎◌, inl, inr}
use mathlib.Core.List.Forall₂.{cons as cons₂}
use mathlib.Core.List.Forall₂.{nil as nil₂}
use mathlib.Core.List.{List, ◌∷◌, ◌++◌, Forall₂}
use mathlib.Core.Bool.{true, false}
use Prim.Native.Nat.{ℕ, ◌+◌}
use native.Mathlib.Omega.{arith}
use lib.ListN.{length}
use Rattle.std.specs.Prelude.{None}
use Rattle.text.specs.Text.{same}
use Rattle.grammar.specs.Grammar as grammar
use Rattle.sheet.specs.Line.{Line}
use Rattle.sheet.specs.Load.{lines, load}
use Rattle.sheet.specs.Tree.{Node, trees}
use Rattle.sheet.specs.Held.{Formed, formed}
use Rattle.sheet.specs.Same.{SameLine}
use Rattle.sheet.specs.Joined.{Reads, Joins}
use Rattle.sheet.proofs.Joining.{joined_read}
use Rattle.sheet.proofs.Paired.{Opt, opt_none, opt_imp}
use Rattle.sheet.proofs.Twins.{Twin, twin, Twins, twin_map, twins_map, trees_twins}
use Rattle.sheet.proofs.Trees.{trees_behind, due-same, rest_due}
use Rattle.rules.specs.Text.{Name}
use Rattle.rules.specs.Ast.{Field, field_of}
use Rattle.rules.specs.Model.{Model, joined, field_named, event_named}
use Rattle.rules.specs.KeyKinds.{is_keyed}
use Rattle.rules.specs.Verdict.{model_of, verdict}
use Rattle.rules.specs.Check.{check}
use Rattle.rules.proofs.All.{All}
use Rattle.related.specs.Sheets.{Foreign}
use Rattle.related.proofs.Like.{Head, SameField, last_like}
use Rattle.related.proofs.LikeStatements.{SameEvent}
use Rattle.related.proofs.LikeCheck.{PartLike}
use Rattle.related.proofs.Compared.{renumbered}
use Rattle.related.proofs.Joined.{check-joined}
use Rattle.related.proofs.TwinItems.{head_same, items_of, Heads, heads_of, part_of}
use Rattle.related.proofs.Sheets.{items_read, items_before}
use Rattle.related.proofs.Accepted.{zero_passed, passed_zero}
use Rattle.related.proofs.Lookups.{field_in, last_before, last_behind, first_before, first_behind, found}
use Rattle.related.proofs.Unrefused.{Passes}

-- ------------------------------------------------------------ one of two sheets

-- fields with the same head, whose name is none of n's
record HeadForeign (n : Model) (f g : Field) : Type 0 where
  head : Head f g
  foreign : field_named n f.name ≡ None

-- the same record, which is foreign to n
abbrev SameForeign : Model → Line → Line → Type 0
SameForeign n l k = SameLine l k × Foreign n l

same_foreign : {ls ks : List Line} (n : Model) → All (Foreign n) ls → Forall₂ SameLine ls ks → Forall₂ (SameForeign n) ls ks
same_foreign n h nil₂ = nil₂
same_foreign n h (cons₂ q r) = cons₂ (q, h.0) (same_foreign n h.1 r)

field_foreign : (n : Model) (t u : Node) → Formed grammar.Field t → Twin (λ i j. Unit) (SameForeign n) t u → HeadForeign n (field_of t) (field_of u)
unfolding field_of
field_foreign n t u (formed {i = i} a p fs) (twin {j = j} l h r) =
    record { head = head_same (formed {i = i} a p fs) (twin_map (λ l k q. q.0) (twin {j = j} l h r)); foreign = h.1.field (inr (omega (arith, a))) }

-- The model M of one sheet stands as A in the model of both; the other's model is N.
record Half (N M A : Model) : Type 0 where
  heads : Heads (HeadForeign N) M A
  part : (J : Model) → ((x : Name) → field_named N x ≡ None → SameField (renumbered M J) x) → ((x : Name) → event_named N x ≡ None → SameEvent (renumbered M J) x) → PartLike (renumbered M J) M A

half : (s : List ℕ) (types scratch : ℕ) (c : Line) (r a : List Line) (i : ℕ) (N : Model) → load s types scratch ≡ lines (c ∷ r) → Forall₂ SameLine r a → All (Foreign N) r
    → Half N (model_of (c ∷ r)) (items_of (trees i a))
half s types scratch c r a i N read same foreign =
    let q = items_read s types scratch c r read in
    let t : Twins (λ i j. Unit) (SameForeign N) (trees 1 r) (trees i a) = trees_twins (λ i j n. tt) (λ l k q. q.0.parts) 1 i tt (same_foreign N foreign same) in
    rw q.2
    (record {
      heads = heads_of (λ l k q. q.0) (HeadForeign N) (field_foreign N) q.0 q.1 t;
      part = λ J same_field same-event. part_of q.0 q.1 (twins_map (λ l k q. record { same = q.0; field = λ e. same_field l.name (q.1.field e); event = λ e. same-event l.name (q.1.event e) }) t);
    })

module _ {N M A : Model} (h : Half N M A) where
  in_both : (x : Name) → Opt (HeadForeign N) (field_in x M.fields) (field_in x A.fields)
  in_both x = last_like (λ f. f.name) (λ f. f.name) (λ f g q. q.head.name) x h.heads.fields

  heads_in : (x : Name) → Opt Head (field_in x M.fields) (field_in x A.fields)
  heads_in x = opt_imp (λ f g q. q.head) (in_both x)

  none_there : (x : Name) → field_named M x ≡ None → field_in x A.fields ≡ None
  unfolding field_named
  none_there x e = opt_none (in_both x) e

-- ------------------------------------------------------------ both

keyed_none : (m : Model) (x : Name) → field_named m x ≡ None → is_keyed m x ≡ false
unfolding is_keyed
keyed_none m x e = rw (is_keyed, e)

module _ {M N A B : Model} (p : Half N M A) (q : Half M N B) where
  abbrev J : Model
  J = joined A B

  part₁ : PartLike (renumbered M J) M A
  unfolding field_named event_named joined
  part₁ =
      p.part J (λ x e. rw (last_before x A.fields B.fields (none_there q x e)) (heads_in p x))
      (λ x e. rw (← p.heads.events, ← q.heads.events) (sym (first_before x M.events N.events e)))

  part₂ : PartLike (renumbered N J) N B
  unfolding field_named event_named joined
  part₂ =
      q.part J (λ x e. rw (last_behind x A.fields B.fields (none_there p x e)) (heads_in q x))
      (λ x e. rw (← p.heads.events, ← q.heads.events) (sym (first_behind x M.events N.events e)))

  last : All (λ f. field_in f.name B.fields ≡ None) A.fields
  last = by_cases p.heads.fields
    where
      by_cases : {fs gs : List Field} → Forall₂ (HeadForeign N) fs gs → All (λ g. field_in g.name B.fields ≡ None) gs
      by_cases nil₂ = tt
      by_cases (cons₂ {a = f} h r) = (rw (← h.head.name) (none_there q f.name h.foreign), by_cases r)

  disjoint : (x : Name) → is_keyed M x ≡ true → is_keyed N x ≡ true → ⊥
  unfolding field_named
  disjoint x h k = by_cases (found (λ x. field_named N x ≡ None) x M.fields (foreign p.heads.fields))
    where
      foreign : {fs gs : List Field} → Forall₂ (HeadForeign N) fs gs → All (λ f. field_named N f.name ≡ None) fs
      foreign nil₂ = tt
      foreign (cons₂ h r) = (h.foreign, foreign r)

      by_cases : (field_in x M.fields ≡ None) ⊎ (field_named N x ≡ None) → ⊥
      by_cases (inl e) = let z : ◌≡◌ {A = ℕ} 0 1 = cc (keyed_none M x e, h) in omega arith
      by_cases (inr e) = let z : ◌≡◌ {A = ℕ} 0 1 = cc (keyed_none N x e, k) in omega arith

  joined_passes : Passes (check M) → Passes (check N) → Passes (check J)
  joined_passes = check-joined M N A B part₁ part₂ last disjoint

-- ------------------------------------------------------------ the sheets

-- two sheets, and one with the lines of both
module _ {s₁ s₂ s : List ℕ} {types₁ scratch₁ types₂ scratch₂ types scratch : ℕ} {l₁ l₂ l : List ℕ} {L₁ L₂ : List (List ℕ)} {c₁ c₂ c : Line} {r₁ r₂ : List Line}
    (one : Reads s₁ types₁ scratch₁ l₁ L₁ c₁ r₁) (two : Reads s₂ types₂ scratch₂ l₂ L₂ c₂ r₂) (both : Joins c₁ c₂ (L₁ ++ L₂) s types scratch l c)
    (message₁ message₂ message : ℕ) where
  -- where both are accepted, and the lines of each are foreign to the other, it is accepted
  pub joined_number : All (Foreign (model_of (c₂ ∷ r₂))) r₁ → All (Foreign (model_of (c₁ ∷ r₁))) r₂
      → (verdict s₁ types₁ scratch₁ message₁).number ≡ 0 → (verdict s₂ types₂ scratch₂ message₂).number ≡ 0 → (verdict s types scratch message).number ≡ 0
  joined_number f g h k =
      let t = joined_read one two both in
      let a = t.0 in
      let b = t.1 in
      let p = half s₁ types₁ scratch₁ c₁ r₁ a 1 (model_of (c₂ ∷ r₂)) one.read t.3 f in
      let q = half s₂ types₂ scratch₂ c₂ r₂ b (1 + length a) (model_of (c₁ ∷ r₁)) two.read t.4 g in
      let e : model_of (c ∷ (a ++ b)) ≡ joined (items_of (trees 1 a)) (items_of (trees (1 + length a) b)) =
      (items_read s types scratch c (a ++ b) t.2).2 ∙ ap items_of (trees_behind 1 b (due-same (rest_due s₁ types₁ scratch₁ c₁ r₁ one.read) t.3)) ∙ items_before (trees 1 a) (trees (1 + length a) b)
      in
      passed_zero s types scratch message (c ∷ (a ++ b)) t.2
      (rw e
      (joined_passes p q (record { passed = zero_passed s₁ types₁ scratch₁ message₁ (c₁ ∷ r₁) one.read h }) (record { passed = zero_passed s₂ types₂ scratch₂ message₂ (c₂ ∷ r₂) two.read k })).passed)
