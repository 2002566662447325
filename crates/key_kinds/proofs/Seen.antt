-- The uses seen and their marks: one use, and some behind others. Assumes nothing.
use mathlib.Core.Path.{◌≡◌, refl, sym, ◌∙◌}
use mathlib.Core.List.{List, [], ◌∷◌, ◌++◌, append_assoc, append-nil}
use mathlib.Core.Bool.{Bool, true, false, not, ◌&&◌, ◌||◌, beq}
use Prim.Native.Nat.{ℕ, ◌<◌}
use native.Mathlib.Omega.{arith}
use lib.Dec.{eqb}
use lib.ListN.{get_or, set, length-set}
use lib.Seq.{get_or-set_same, get_or-set_other}
use borrow.Author.Tests.{eqb-true, eqb-false}
use Rattle.std.specs.Prelude.{Option, Some, None, Result, Ok, Err}
use Rattle.text.specs.Text.{same}
use Rattle.text.proofs.Words.{same_self, same-is}
use Rattle.rules.specs.Text.{Name}
use Rattle.rules.specs.Ast.{span}
use Rattle.rules.specs.Asking.{ok, refused}
use Rattle.rules.specs.Arithmetic.{any}
use Rattle.rules.specs.KeyKinds.{Use, differs, check_uses}
use Rattle.rules.specs.Standing.{expr_at, named_at, Loaded}
use Rattle.refusals.specs.Answers.{Answers, expected}
use Rattle.lookups.specs.Found.{FieldNamed}
use Rattle.refusals.specs.Refusal.{refusal_of, done_of}
use Rattle.refusals.specs.declared.refusal.Refusal.{Refusal}
use Rattle.refusals.specs.declared.refusal.Refusal.TheVariants.{KeyKinds}
use Rattle.refusals.proofs.Answers.{gives, passes, refuses}
use Rattle.lookups.proofs.Fields.{one_line, one_name}
use Rattle.key_kinds.specs.Uses.{key_kind_of, is_other, Noted, KeyMarks, Passed, Judged}
use Rattle.sheet.specs.Line.{most_lines}
use Rattle.key_kinds.specs.declared.marks.KeyKind.{KeyKind}
use Rattle.key_kinds.specs.contracts.marks.KeyKind.{the_type}
use denote.Enum.Bare.{sameb}
use Rattle.key_kinds.specs.declared.marks.KeyKind.TheVariants.{Named, Other}

-- ------------------------------------------------------------ one mark

kinds_differ : (j k : KeyKind) → is_other k (Some j) ≡ not (sameb the_type j k)
unfolding is_other
kinds_differ Named Named = refl
kinds_differ Named Other = refl
kinds_differ Other Named = refl
kinds_differ Other Other = refl

-- What `note` meets: o is what was seen.
module _ (ks : List (Option KeyKind)) (f : ℕ) (k : KeyKind) (map key : ℕ) (o : Option KeyKind) (e : o ≡ get_or ks f None) where
  module _ (j : KeyKind) (ej : o ≡ Some j) (b : Bool) (eb : b ≡ not (sameb the_type j k)) where
    pub note_other : b ≡ true → Noted ks ks f k map key (Err (KeyKinds map key))
    unfolding expected
    note_other q =
        record {
          answer = rw (← e, ej, kinds_differ j k, ← eb, q) refl;
          marks = λ z. absurd (let w : ◌≡◌ {A = ℕ} 0 1 = cc in omega arith);
        }

    pub note_same : b ≡ false → Noted ks (set ks f (Some k)) f k map key (Ok tt)
    unfolding expected
    note_same q = record { answer = rw (← e, ej, kinds_differ j k, ← eb, q) refl; marks = λ z. refl }

  pub note_first : o ≡ None → Noted ks (set ks f (Some k)) f k map key (Ok tt)
  unfolding expected is_other
  note_first q = record { answer = rw (← e, q) refl; marks = λ z. refl }

-- ------------------------------------------------------------ one use

-- what was seen, before and after a use of the same kind
cells : (a b : Bool) (o : Option KeyKind) → is_other (key_kind_of b) o ≡ false → (not (beq a b) || is_other (key_kind_of a) o) ≡ is_other (key_kind_of a) (Some (key_kind_of b))
unfolding key_kind_of is_other
cells true true o e = e
cells true false o e = refl
cells false true o e = refl
cells false false o e = e

module _ {s S : List ℕ} (d : Loaded s S) (u : Use) (f : ℕ) (n : FieldNamed s S u.map (Some f)) where
  -- two names are the same where their fields are
  same_field : (x : Name) (g : ℕ) → FieldNamed s S x (Some g) → same x u.map ≡ eqb g f
  same_field x g m = by_cases (eqb g f) refl (same x u.map) refl
    where
      by_cases : (t : Bool) → eqb g f ≡ t → (v : Bool) → same x u.map ≡ v → v ≡ t
      by_cases true p v q =
          let a : FieldNamed s S x (Some f) = rw (← eqb-true g f p) m in
          sym q ∙ rw (one_name d a n) (same_self u.map)
      by_cases false p true q =
          let a : FieldNamed s S u.map (Some g) = rw (← same-is x u.map q) m in
          absurd (eqb-false g f p (one_line d a n))
      by_cases false p false q = refl

  put_use : (seen : List Use) (ks : List (Option KeyKind)) → f < most_lines → KeyMarks s S seen ks → is_other (key_kind_of u.is_name) (get_or ks f None) ≡ false
      → KeyMarks s S (u ∷ seen) (set ks f (Some (key_kind_of u.is_name)))
  unfolding any differs
  put_use seen ks h k e =
      record {
        size = length-set ks f _ ∙ k.size;
        tells = λ v g m. rw (same_field v.map g m, k.tells v g m) (by_cases v g (eqb g f) refl);
      }
    where
      by_cases : (v : Use) (g : ℕ) (t : Bool) → eqb g f ≡ t
          → ((t && not (beq v.is_name u.is_name)) || is_other (key_kind_of v.is_name) (get_or ks g None)) ≡ is_other (key_kind_of v.is_name) (get_or (set ks f (Some (key_kind_of u.is_name))) g None)
      by_cases v g true q =
          rw (eqb-true g f q, get_or-set_same ks f (Some (key_kind_of u.is_name)) None (omega (arith, h, k.size))) (cells v.is_name u.is_name (get_or ks f None) e)
      by_cases v g false q = rw (get_or-set_other ks f g (Some (key_kind_of u.is_name)) None (eqb-false g f q)) refl

  -- What `check_use` meets: the answer of `note` to this use.
  module _ (ks ls : List (Option KeyKind)) (map key : ℕ) (r : Result Unit Refusal) (w : Noted ks ls f (key_kind_of u.is_name) map key r) (h : f < most_lines) (ex : named_at s map ≡ u.map) (ey : span (expr_at s key) ≡ u.at) where
    abbrev other : Bool
    other = is_other (key_kind_of u.is_name) (get_or ks f None)

    not_fine : other ≡ true → r ≡ Err (KeyKinds map key)
    unfolding expected
    not_fine q = w.answer ∙ rw q refl

    not_refused : other ≡ false → r ≡ Ok tt
    unfolding expected
    not_refused q = w.answer ∙ rw q refl

    fine : r ≡ Ok tt → Passed s S ks ls (u ∷ []) []
    unfolding check_uses
    fine e = by_cases other refl
      where
        by_cases : (t : Bool) → other ≡ t → Passed s S ks ls (u ∷ []) []
        by_cases true q = absurd (let z : ◌≡◌ {A = ℕ} 0 1 = cc (not_fine q, e) in omega arith)
        by_cases false q =
            rw (w.marks e)
            (record {
              passed = λ seen k. (u ∷ seen, put_use seen ks h k q, λ us r a. passes _ 46 _ _ _ r (rw (k.tells u f n, q) refl) a);
            })

    stops : (why : Refusal) → r ≡ Err why → (seen us : List Use) → KeyMarks s S seen ks → Answers (check_uses seen (u ∷ us)) (refused (refusal_of s why))
    unfolding check_uses refusal_of
    stops why e seen us k = by_cases other refl
      where
        by_cases : (t : Bool) → other ≡ t → Answers (check_uses seen (u ∷ us)) (refused (refusal_of s why))
        by_cases true q =
            let z : why ≡ KeyKinds map key = cc (not_fine q, e) in
            rw (z, ex, ey) (refuses _ 46 _ _ _ (rw (k.tells u f n, q) refl))
        by_cases false q = absurd (let z : ◌≡◌ {A = ℕ} 0 1 = cc (not_refused q, e) in omega arith)

    pub use_judged : Judged s S ks ls (u ∷ []) r
    use_judged = record { fine = fine; stops = stops }

-- ------------------------------------------------------------ some uses behind others

module _ (s S : List ℕ) where
  pub passed_start : (ks : List (Option KeyKind)) (all left : List Use) → all ≡ left → Passed s S ks ks all left
  passed_start ks all left e = record { passed = λ seen k. (seen, k, λ us r a. rw e a) }

  pub none_judged : (ks : List (Option KeyKind)) (all : List Use) → all ≡ [] → Judged s S ks ks all (Ok tt)
  none_judged ks all e =
      record { fine = λ q. passed_start ks all [] e; stops = λ why q. absurd (let z : ◌≡◌ {A = ℕ} 0 1 = cc in omega arith) }

  module _ (ks ls : List (Option KeyKind)) (all left : List Use) (p : Passed s S ks ls all left) where
    pub passed_over : left ≡ [] → Judged s S ks ls all (Ok tt)
    passed_over e =
        record { fine = λ q. rw e at p; stops = λ why q. absurd (let z : ◌≡◌ {A = ℕ} 0 1 = cc in omega arith) }

    module _ (ms : List (Option KeyKind)) (here rest : List Use) (r : Result Unit Refusal) (e : left ≡ here ++ rest) (j : Judged s S ls ms here r) where
      pub passed_next : r ≡ Ok tt → Passed s S ks ms all rest
      passed_next q =
          record {
            passed = λ seen k.
                let a = p.passed seen k in
                let b = (j.fine q).passed a.0 a.1 in
                (b.0, b.1, λ us x y. a.2 us x (rw (e, append_assoc here rest us) (b.2 (rest ++ us) x y)));
          }

      pub passed_refused : (why : Refusal) → r ≡ Err why → Judged s S ks ms all (Err why)
      passed_refused why q =
          record {
            fine = λ z. absurd (let w : ◌≡◌ {A = ℕ} 0 1 = cc in omega arith);
            stops = λ why' z seen us k.
                let a = p.passed seen k in
                let same : why ≡ why' = cc in
                a.2 us _ (rw (e, append_assoc here rest us, ← same) (j.stops why q a.0 (rest ++ us) a.1));
          }

  -- all of them
  pub all_judged : (ks ls : List (Option KeyKind)) (all : List Use) (r : Result Unit Refusal) → KeyMarks s S [] ks → Judged s S ks ls all r → Answers (check_uses [] all) (done_of s r)
  unfolding done_of check_uses
  all_judged ks ls all (Ok tt) k j =
      rw (← append-nil all) (((j.fine refl).passed [] k).2 [] (ok tt) (gives tt))
  all_judged ks ls all (Err why) k j = rw (← append-nil all) (j.stops why refl [] [] k)
