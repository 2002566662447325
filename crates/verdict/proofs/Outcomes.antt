-- What a call answers and leaves is `outcome`. Assumes nothing.
use mathlib.Core.Path.{◌≡◌, refl, sym, ap, ◌∙◌}
use mathlib.Core.List.{List, ◌∷◌, ◌++◌}
use Prim.Native.Nat.{ℕ, zero, suc, ◌*◌, ◌≤◌}
use native.Mathlib.Omega.{arith}
use mir.Val.{Fits}
use mir.Syntax.{w32, w64}
use lib.ListN.{length, take, drop, replicate}
use lib.Seq.{length-take-le, drop_at}
use Rattle.sheet.specs.Line.{Line}
use Rattle.sheet.specs.Load.{LoadResult, lines, refused, lines_of, copies, early, load, load_from}
use Rattle.sheet.specs.Scan.{scan_all}
use Rattle.sheet.specs.Promise.{answer, laid, scratch_from, scratch_after}
use Rattle.std.specs.Prelude.{Result, Ok, Err}
use Rattle.sheet.specs.declared.refusal.Refused.{Refused}
use Rattle.sheet.proofs.Due.{length-copies}
use Rattle.sheet.proofs.Holds.{length-put_lines, length-closed}
use Rattle.sheet.proofs.Loading.{scan-length, room, types_room, passed, loads, loaded_whole, load_place}
use Rattle.sheet.proofs.Loaded.{answer_lines}
use Rattle.rules.specs.Asking.{Res, ok, refused as ruled_out}
use Rattle.rules.specs.Kept.{Table}
use Rattle.rules.specs.Check.{check}
use Rattle.rules.specs.Standing.{LoadedIn, model_in, Loaded}
use Rattle.sheet.specs.Loaded.{read_lines, lines_in}
use Rattle.rules.specs.Verdict.{overwritten, answer_for, judge, refused_sheet, verdict, kept_judge, kept_verdict}
use Rattle.rules.proofs.Binding.{kept-length}
use Rattle.rules.proofs.Checked.{verdict-kept}
use Rattle.rules.proofs.Standing.{by_answer}
use Rattle.verdict.specs.Outcome.{answer_of, zeros, outcome, Exact, judged, Judges}
use Rattle.verdict.specs.declared.Answer.{Answer}
use Rattle.sheet.specs.Scratch.{cells_per_line}

copies-replicate : (n x : ℕ) → copies n x ≡ replicate n x
unfolding copies
copies-replicate zero x = refl
copies-replicate (suc n) x = ap (λ l. x ∷ l) (copies-replicate n x)

written_length : (new old : List ℕ) (n : ℕ) → length new ≡ n → overwritten new old ≡ new ++ drop n old
unfolding overwritten
written_length new old n e = rw e refl

laid-length : (r : LoadResult) (S : List ℕ) → length (laid r S) ≡ length S
unfolding laid
laid-length (lines ls) S = length-closed (length ls) _ ∙ length-put_lines ls S 0
laid-length (refused n i) S = length-copies (length S) 0

answer-refused : {f : Refused} (r : LoadResult) → Err f ≡ answer r → r ≡ refused f.number f.line
unfolding answer
answer-refused {f} (lines ls) e = absurd (let z : ◌≡◌ {A = ℕ} 0 1 = cc in omega arith)
answer-refused {f} (refused m j) e = let q : f ≡ record { number = m; line = j } = cc in rw q refl

-- ------------------------------------------------------------ a sheet that is refused

unread_left : (s : List ℕ) (types : ℕ) (S : List ℕ) (k i : ℕ) → load s types (length S) ≡ refused k i
    → scratch_after s types S ≡ overwritten (zeros (early s types (length S)) (length (lines_of s))) S
unfolding load load_from scratch_after scratch_from laid zeros overwritten
unread_left s types S k i = by_cases (early s types (length S)) refl
  where
    by_cases : (m : ℕ) → early s types (length S) ≡ m → load_from m s ≡ refused k i → scratch_from m s S ≡ overwritten (zeros m (length (lines_of s))) S
    by_cases zero z e = let n = (passed s types S _ _ (sym z) refl refl).cells in rw (e, n, length-copies {A = ℕ} (cells_per_line * length (lines_of s)) 0) refl
    by_cases (suc m) z e = refl

-- ------------------------------------------------------------ a sheet that is read

-- where the answer is the number of lines, there are so many
record ReadAs (s : List ℕ) (types : ℕ) (S : List ℕ) (n : ℕ) : Type 0 where
  read : List Line
  load : load s types (length S) ≡ lines read
  early : early s types (length S) ≡ 0
  scan : scan_all s ≡ lines read
  size : n ≡ length read
  count : n ≡ length (lines_of s)

-- the rules on a table of zeros
ruled : (s : List ℕ) (types scratch most n : ℕ) (ls : List Line) → load s types scratch ≡ lines ls → scan_all s ≡ lines ls → n ≡ length ls
    → verdict s types scratch most ≡ judged s (copies n 0) most
unfolding judged kept_verdict kept_judge model_in lines_in read_lines
ruled s types scratch most n ls l e c = verdict-kept s types scratch most ∙ rw (l, e, c, copies-replicate) refl

pub told_types : (most : ℕ) (r : Res Unit) (T : Table) → (answer_for most r T).types ≡ T
unfolding answer_for
told_types most (ok u) T = refl
told_types most (ruled_out r) T = refl

judged-length : (s : List ℕ) (n most : ℕ) → length (judged s (copies n 0) most).types ≡ n
unfolding judged
judged-length s n most = ap length (told_types most _ _) ∙ kept-length (check (model_in s)) (copies n 0) ∙ length-copies n 0

outcome_read : (s S T M : List ℕ) (n : ℕ) (Z W N D : List ℕ) (b : Answer) → early s (length T) (length S) ≡ 0 → n ≡ length (lines_of s)
    → verdict s (length T) (length S) (length M) ≡ judged s (copies n 0) (length M)
    → Judges s (copies n 0) M b W N
    → Z ≡ copies (cells_per_line * n) 0 → D ≡ drop (cells_per_line * n) S
    → record { answer = b; scratch = Z ++ D; types = W ++ drop n T; message = N } ≡ outcome s S T M
unfolding outcome zeros
outcome_read s S T M n Z W N D b e c v x z d =
    rw (v, e, ← c, written_length (copies (cells_per_line * n) 0) S (cells_per_line * n) (length-copies (cells_per_line * n) 0), written_length _ T n (judged-length s n (length M)), z, d, x.answer, x.types, x.message) refl

-- `load` answered r, and left U in the scratch S; types is the length it was told.
module _ (s S U : List ℕ) (types : ℕ) (r : Result ℕ Refused) (a : r ≡ answer (load s types (length S))) (u : U ≡ scratch_after s types S) where
  module _ (n : ℕ) (e : r ≡ Ok n) where
    read_as_lem : ReadAs s types S n
    read_as_lem =
        let l = answer_lines (load s types (length S)) (sym e ∙ a) in
        let w = loaded_whole s types (length S) l.0 l.1 in
        record {
          read = l.0;
          load = l.1;
          early = w.0;
          scan = w.1;
          size = l.2;
          count = l.2 ∙ scan-length (lines_of s) 1 0 _ l.0 w.1;
        }

    in_scratch : LoadedIn s U n
    in_scratch = by_answer s S U types n r a e u

    pub cells_within : cells_per_line * n ≤ length U
    cells_within = in_scratch.cells

    pub cells_length : cells_per_line * n ≡ length (take (cells_per_line * n) U)
    cells_length = sym (length-take-le (cells_per_line * n) U cells_within)

    pub cells_fit : Fits w64 (cells_per_line * n)
    cells_fit = omega (arith, in_scratch.few)

    -- the entries behind those of the lines
    behind : drop (cells_per_line * n) U ≡ drop (cells_per_line * n) S
    behind =
        let h = length-take-le (cells_per_line * n) S (room s types S _ n refl read_as_lem.early read_as_lem.count) in
        ap (drop (cells_per_line * n)) (u ∙ sym (loads s types S _ n refl read_as_lem.early read_as_lem.count _ _ refl refl).1)
        ∙ drop_at (laid (scan_all s) (take (cells_per_line * n) S)) (drop (cells_per_line * n) S) (cells_per_line * n) (laid-length (scan_all s) (take (cells_per_line * n) S) ∙ h)

    pub loaded_lines : Loaded s (take (cells_per_line * n) U)
    loaded_lines = in_scratch.loaded

    -- the table T has as many bytes at least
    module _ (T : List ℕ) (t : types ≤ length T) where
      pub table_within : n ≤ length T
      table_within = omega (arith, types_room s types S _ n refl read_as_lem.early read_as_lem.count)

      pub table_length : n ≡ length (take n T)
      table_length = sym (length-take-le n T table_within)

      pub exact : Exact s (take (cells_per_line * n) U) (take n T)
      exact =
          record {
            lines =
                record {
                  small = (passed s types S _ n refl read_as_lem.early read_as_lem.count).small;
                  few = omega (arith, in_scratch.few, cells_length);
                };
            bytes = omega (arith, cells_length, table_length);
          }

  module _ (f : Refused) (e : r ≡ Err f) where
    unread : load s types (length S) ≡ refused f.number f.line
    unread = answer-refused (load s types (length S)) (sym e ∙ a)

    pub place_fits : Fits w32 f.line
    place_fits = omega (arith, load_place s types S f.number f.line unread)

-- ------------------------------------------------------------ the outcome

-- the same, where it was told the length of the table T; M is the message buffer
module _ (s S T M U : List ℕ) (r : Result ℕ Refused) (a : r ≡ answer (load s (length T) (length S))) (u : U ≡ scratch_after s (length T) S) where
  pub outcome_lines : (n : ℕ) (b : Answer) (Z W N : List ℕ) → r ≡ Ok n → Judges s (copies (length (take n T)) 0) M b W N → Z ≡ copies (length (take (cells_per_line * n) U)) 0
      → record { answer = b; scratch = Z ++ drop (cells_per_line * n) U; types = W ++ drop n T; message = N } ≡ outcome s S T M
  outcome_lines n b Z W N e x z =
      let h = read_as_lem s S U (length T) r a u n e in
      let k = table_length s S U (length T) r a u n e T (omega arith) in
      let l = cells_length s S U (length T) r a u n e in
      outcome_read s S T M n Z W N _ b h.early h.count (ruled s (length T) (length S) (length M) n h.read h.load h.scan h.size)
      (rw (← k) at x) (z ∙ ap (λ m. copies m 0) (sym l)) (behind s S U (length T) r a u n e)

  pub outcome-refused : (f : Refused) → r ≡ Err f
      → record { answer = record { number = f.number; place = f.line; count = 0; length = 0 }; scratch = U; types = T; message = M } ≡ outcome s S T M
  unfolding outcome verdict judge refused_sheet answer_of overwritten
  outcome-refused f e = let h = unread s S U (length T) r a u f e in rw (u, unread_left s (length T) S f.number f.line h, h) refl
