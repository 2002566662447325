use Rattle.std.proofs.Common.{◌≡◌, ◌≤◌, ℕ, ◌+◌, List, ◌++◌, rules, length, take, sym, subst, length-take-le}
use Rattle.std.proofs.Math.Seq.{take-append-add}
use Rattle.std.proofs.lemmas.List.{take-append-le}
use Rattle.std.proofs.KnownBytes.{Consumes-trans}
use Rattle.std.specs.Io.KnownBytes.{Consumes}
use borrow.Rule.Slice.PartMut.{put_mid, post_of}
use Rattle.frames.proofs.read_full.Goals as goal

-- after a read of n bytes into what lies behind the first a
take_filled : (a k n : ℕ) (xs ys : List ℕ) → a ≤ length xs → n ≤ length ys → take (a + n) (put_mid a k xs ys) ≡ take a xs ++ take n ys
take_filled a k n xs ys within fits =
    let after = post_of a k xs in
    let seam = rw (length-take-le a xs within) at (take-append-add (take a xs) (ys ++ after) n) in
    rw (take-append-le n ys after fits) at seam

pub loop-count-preserved : goal.loop-count-preserved
loop-count-preserved g c = record {
  bound = search rules;
  consumed = subst (Consumes _ _)
      (sym (take_filled _ _ _ _ _ c.loop-count.invariant.bound c.in_ok-n.ensures.bound.0))
      (Consumes-trans _ _ _ _ _ c.loop-count.invariant.consumed c.in_ok-n.ensures.bytes.0);
}
