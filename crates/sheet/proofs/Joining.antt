-- A sheet with a `contract` line and the lines of two sheets, behind their first ones, is read and has the records of both. Assumes nothing.
use mathlib.Core.Path.{◌≡◌, refl, ap, ◌∙◌}
use mathlib.Core.List.{List, [], ◌∷◌, ◌++◌, append_assoc, append-nil, Forall₂}
use Prim.Native.Nat.{ℕ, ◌+◌}
use lib.ListN.{length}
use Rattle.grammar.specs.Grammar.{Sort, Contract}
use Rattle.sheet.specs.Line.{Line, read_line}
use Rattle.sheet.specs.Load.{LoadResult, lines, sorts, due, scan, load_from, load}
use Rattle.sheet.specs.Same.{SameLine}
use Rattle.sheet.specs.Joined.{Reads, Joins}
use Rattle.sheet.proofs.Holds.{judged_lines, judged_good}
use Rattle.sheet.proofs.Loading.{loaded_whole}
use Rattle.sheet.proofs.Paired.{split₂}
use Rattle.sheet.proofs.Rereading.{Reread, scan-joined, scan_moved}

due-append : (d : ℕ) (ss us : List Sort) → due d (ss ++ us) ≡ due d ss ++ due d us
unfolding due
due-append d [] us = refl
due-append d (s ∷ ss) us = ap (λ l. (d, s) ∷ l) (due-append d ss us)

of_line : (f : Line → LoadResult) (c x : Line) (r ys : List Line) → f x ≡ lines ys → c ∷ r ≡ x ∷ ys → f c ≡ lines r
of_line f c x r ys h e = let p : c ≡ x = cc in let q : r ≡ ys = cc in rw (p, q) h

-- what stands behind the first line of a sheet that is read
rest_read : {s : List ℕ} {types scratch : ℕ} {l : List ℕ} {L : List (List ℕ)} {c : Line} {r : List Line} → Reads s types scratch l L c r
    → scan 2 (0 + length l + 1) (due 1 (sorts c.parts) ++ []) L ≡ lines r
unfolding scan
rest_read {s} {types} {scratch} {l} {L} {c} {r} h =
    let q = judged_lines _ _ 1 _ (c ∷ r) (rw h.all at (loaded_whole s types scratch (c ∷ r) h.read).1) in
    of_line (λ x. scan 2 (0 + length l + 1) (due 1 (sorts x.parts) ++ []) L) c q.0 r q.1 q.3 q.4

-- two sheets, and one with the lines of both
module _ {s₁ s₂ s : List ℕ} {types₁ scratch₁ types₂ scratch₂ types scratch : ℕ} {l₁ l₂ l : List ℕ} {L₁ L₂ : List (List ℕ)} {c₁ c₂ c : Line} {r₁ r₂ : List Line}
    (one : Reads s₁ types₁ scratch₁ l₁ L₁ c₁ r₁) (two : Reads s₂ types₂ scratch₂ l₂ L₂ c₂ r₂) (both : Joins c₁ c₂ (L₁ ++ L₂) s types scratch l c) where
  reread : Reread (r₁ ++ r₂) (scan 2 (0 + length l + 1) (due 1 (sorts c.parts) ++ []) (L₁ ++ L₂))
  reread =
      let p = rest_read one in
      let q = rest_read two in
      let e : due 1 (sorts c.parts) ++ [] ≡ due 1 (sorts c₁.parts) ++ (due 1 (sorts c₂.parts) ++ []) = rw (both.count, due-append 1 (sorts c₁.parts) (sorts c₂.parts), append_assoc) in
      rw e
      (scan-joined L₁ L₂ (due 1 (sorts c₁.parts)) (due 1 (sorts c₂.parts) ++ []) 2 _ _ _ r₁ r₂ (rw append-nil at p)
      (λ j to. scan_moved L₂ (due 1 (sorts c₂.parts) ++ []) 2 _ j to r₂ q))

  pub joined_read : (a b : List Line) × (load s types scratch ≡ lines (c ∷ (a ++ b))) × Forall₂ SameLine r₁ a × Forall₂ SameLine r₂ b
  unfolding load load_from scan
  joined_read =
      let t = reread in
      let q = split₂ r₁ r₂ t.same in
      let u : scan 1 0 ((0, Contract) ∷ []) (l ∷ (L₁ ++ L₂)) ≡ lines (c ∷ (q.0 ++ q.1)) =
      judged_good 1 _ (read_line Contract 0 l) (λ x. scan 2 (0 + length l + 1) (due 1 (sorts x.parts) ++ []) (L₁ ++ L₂)) c _ refl both.first (t.read ∙ ap lines q.2)
      in (q.0, q.1, rw (both.not_early, both.all) u, q.3, q.4)
