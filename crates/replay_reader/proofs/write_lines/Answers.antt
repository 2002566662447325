use Rattle.std.proofs.Common.{◌≡◌, ◌<◌, ℕ, zero, suc, ◌+◌, List, [], ◌∷◌, ◌++◌, arith, add-one, add-zero, append_assoc, sym, ap, ◌∙◌, subst}
use Rattle.std.specs.Prelude.{codes}
use Rattle.std.proofs.lemmas.List.{flat_map_more}
use Rattle.std.proofs.KnownBytes.{Appends-trans}
use Rattle.std.specs.List.{flat_map, join_by, range_with_len}
use Rattle.std.specs.Io.KnownBytes.{Appends}
use Rattle.replay_reader.specs.Written.{line_of}
use Rattle.replay_reader.proofs.write_lines.Goals as goal

-- one number more
range_more : (a n : ℕ) → range_with_len a (suc n) ≡ range_with_len a n ++ (a + n) ∷ []
range_more a zero = ap (λ k. k ∷ []) (sym (add-zero a))
range_more a (suc n) =
    let last : (a + 1) + n ≡ a + suc n = omega arith in
    ap (λ xs. a ∷ xs) (range_more (a + 1) n ∙ ap (λ k. range_with_len (a + 1) n ++ k ∷ []) last)

-- one piece more, behind another
join_more : (f : ℕ → List ℕ) (sep : List ℕ) (n : ℕ) → 0 < n → join_by f sep (range_with_len 0 (n + 1)) ≡ (join_by f sep (range_with_len 0 n) ++ sep) ++ f n
join_more f sep zero h = absurd (omega arith)
join_more f sep (suc n) h =
    let last : 1 + n ≡ suc n = omega arith in
    ap (λ k. join_by f sep (range_with_len 0 k)) (add-one (suc n))
    ∙ ap (λ xs. f 0 ++ flat_map (λ y. sep ++ f y) xs) (range_more 1 n ∙ ap (λ k. range_with_len 1 n ++ k ∷ []) last)
    ∙ sym (flat_map_more (λ y. sep ++ f y) (f 0) (range_with_len 1 n) (suc n))
    ∙ sym (append_assoc _ sep (f (suc n)))

pub loop-i-preserved : goal.loop-i-preserved
loop-i-preserved g c =
    let begun : 0 < c.loop-i.i = omega arith in
    subst (Appends _ _)
    (sym (join_more (line_of c.args.text.now c.args.lines.now) (codes " ") c.loop-i.i begun))
    (Appends-trans _ _ _ _ _
    (Appends-trans _ _ _ _ _ c.loop-i.invariant c.in_ok-write_all.ensures.bytes)
    c.in_ok-write_line-2.ensures)
