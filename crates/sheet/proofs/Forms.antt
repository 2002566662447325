-- The trees of a sheet that is read are of the sorts that were due. Assumes nothing.
use mathlib.Core.Path.{◌≡◌, refl, ap}
use mathlib.Core.Bool.{Bool, true, false, cond}
use mathlib.Core.List.{List, [], ◌∷◌, ◌++◌}
use Prim.Native.Nat.{ℕ, suc, ◌+◌, ◌<◌}
use native.Mathlib.Omega.{arith}
use lib.Dec.{ltb}
use lib.ListN.{length}
use borrow.Author.Tests.{ltb-true}
use Rattle.text.specs.Word.{index_in}
use Rattle.grammar.specs.Grammar.{Sort, records_for, first_kind, words_of, kind_for}
use Rattle.grammar.specs.Grammar as grammar
use Rattle.sheet.specs.Line.{Line, read_line, fields_of}
use Rattle.sheet.specs.Load.{lines, sorts, due, scan}
use Rattle.sheet.specs.Tree.{Node, Nodes, more, take_nodes, drop_nodes, grow, trees}
use Rattle.sheet.specs.Held.{Among, Formed, formed, FormedAll, none_due, one_due}
use Rattle.sheet.proofs.Due.{length-sorts}
use Rattle.sheet.proofs.Holds.{judged_lines}
use Rattle.sheet.proofs.ReadAs.{read_sound}

-- the sorts of records that are due
abbrev due-sorts : List (ℕ × Sort) → List Sort
due-sorts [] = []
due-sorts (d ∷ ds) = d.1 ∷ due-sorts ds

due-sorts-due : (d : ℕ) (ss : List Sort) (ds : List (ℕ × Sort)) → due-sorts (due d ss ++ ds) ≡ ss ++ due-sorts ds
unfolding due
due-sorts-due d [] ds = refl
due-sorts-due d (s ∷ ss) ds = ap (λ l. s ∷ l) (due-sorts-due d ss ds)

-- the first trees, and the others
formed_split : (as' : List Sort) {bs : List Sort} {ns : Nodes} → FormedAll (as' ++ bs) ns
    → FormedAll as' (take_nodes (length as') ns) × FormedAll bs (drop_nodes (length as') ns)
unfolding take_nodes drop_nodes
formed_split [] h = (none_due, h)
formed_split (s ∷ as') (one_due h r) = let q = formed_split as' r in (one_due h q.0, q.1)

-- a word that is allowed has a kind among those of the sort
among : (s : Sort) (w : List ℕ) (k : ℕ) → k ≡ kind_for s w → k < grammar.no_kind → Among s k
unfolding kind_for
among s w k e h = by_cases (ltb (index_in w (words_of (records_for s))) (length (records_for s))) refl e
  where
    by_cases : (b : Bool) → ltb (index_in w (words_of (records_for s))) (length (records_for s)) ≡ b → k ≡ cond b (first_kind s + index_in w (words_of (records_for s))) grammar.no_kind → Among s k
    by_cases true q f = let m = ltb-true (index_in w (words_of (records_for s))) (length (records_for s)) q in (omega arith, omega arith)
    by_cases false q f = absurd (omega arith)

pub scan_formed : (ls : List (List ℕ)) (i at j : ℕ) (ds : List (ℕ × Sort)) (xs : List Line) → scan i at ds ls ≡ lines xs → FormedAll (due-sorts ds) (trees j xs)
unfolding scan trees grow read_line fields_of
scan_formed [] i at j [] xs e = let n : xs ≡ [] = cc in rw n none_due
scan_formed [] i at j (d ∷ ds) xs e = absurd (let z : ◌≡◌ {A = ℕ} 0 1 = cc in omega arith)
scan_formed (l ∷ ls) i at j [] xs e = absurd (let z : ◌≡◌ {A = ℕ} 0 1 = cc in omega arith)
scan_formed (l ∷ ls) i at j (d ∷ ds) xs e =
    let r = judged_lines _ _ i _ xs e in
    let x = r.0 in
    let t = read_sound d.1 at (l ++ (10 ∷ [])) x r.2 in
    let h = rw (due-sorts-due (suc d.0) (sorts x.parts) ds) at (scan_formed ls _ _ (suc j) _ _ r.3) in
    let q = rw (length-sorts x.parts) at (formed_split (sorts x.parts) h) in
    rw r.4 (one_due (formed (among d.1 _ x.kind t.fits t.known) t.parted q.0) q.1)

-- What stands where a tree is well formed.
pub formed_one : {s : Sort} {ss : List Sort} {t : Node} {ns : Nodes} → FormedAll (s ∷ ss) (more t ns) → Formed s t
formed_one (one_due h r) = h
