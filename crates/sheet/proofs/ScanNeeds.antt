-- What the proof of `scan` asks, from the facts at each place of its loop. Assumes nothing.
use mathlib.Core.Path.{◌≡◌, refl, sym, ap, ◌∙◌}
use mathlib.Core.Bool.{Bool, true, false}
use mathlib.Core.List.{List, []}
use borrow.Author.Tests.{ltb-true, ltb-false}
use lib.Dec.{ltb}
use Prim.Native.Nat.{ℕ, ◌+◌, ◌-◌, ◌≤◌, ◌<◌}
use native.Mathlib.Omega.{arith}
use lib.ListN.{length, take, drop, length-take, length-drop}
use mir.Val.{Fits}
use mir.Syntax.{w64}
use Rattle.std.specs.Prelude.{Result, Ok, Err}
use Rattle.text.specs.Text.{either, upto, ended}
use Rattle.sheet.specs.Line.{good, read_pieces, read_line, most_lines}
use Rattle.sheet.specs.Line as spec
use Rattle.grammar.specs.Coded.{sort_from, sort_meant}
use Rattle.grammar.specs.declared.sorts.Sort as code
use Rattle.sheet.specs.Scratch.{Small, line_count, put_line}
use Rattle.sheet.specs.Step.{code_line, code_read}
use Rattle.sheet.specs.Open.{Deepest, Top, sort_due, sort_or, taken}
use Rattle.sheet.specs.Load.{refused}
use Rattle.sheet.specs.Scan.{Whole, Going, Scans}
use Rattle.sheet.specs.declared.line.Line.{Line}
use Rattle.sheet.specs.declared.open.Depths.{Depths}
use Rattle.sheet.specs.declared.refusal.Refused.{Refused}
use Rattle.sheet.proofs.Scanning.{line_ends, no_lines, there, told_bad, told_good, scans_refused, turn_line, turn_sort, turn_sortless, turn_read, turn_bad, turn_small, turn_room, turn_top, turn_next, end_complete, end_missing}

-- where the line at `at` ends
abbrev pub Found : List ℕ → ℕ → ℕ → Type 0
Found s at f = f ≡ at + length (upto (either 10 10) (drop at s))

-- what the code reads of it
abbrev pub Got : List ℕ → ℕ → ℕ → code.Sort → ℕ → Result Line Refused → Type 0
Got s at i σ f r = r ≡ code_read (i + 1) (read_pieces (sort_meant σ) at (ended (either 44 10) [] (take (f + 1 - at) (drop at s))))

module _ {s S T : List ℕ} {d : Depths} {at i : ℕ} (g : Going s S T d.due d.count at i) (w : Whole s S) where
  pub few_lines : i ≤ most_lines
  few_lines = omega (arith, g.lines, w.few)

  pub next_fits : Fits w64 (i + 1)
  next_fits = let f = few_lines in omega arith

  pub next_line_lem : at < length s → i + 1 ≤ most_lines
  next_line_lem h = turn_line s S T d.due d.count at i w g h

  pub deepest : Deepest T d.due d.count
  deepest h k = ((g.counts k).0.owned (d.count - 1) (omega arith) (omega arith)).next

  -- n lines are there: all are read
  module _ {n : ℕ} (t : n ≡ line_count S) (h : n ≤ i) where
    over : length s ≤ at
    over = by_cases (ltb at (length s)) refl
      where
        by_cases : (b : Bool) → ltb at (length s) ≡ b → length s ≤ at
        by_cases true q = absurd (omega (arith, g.lines, w.cells, ap length (there s S T d.due d.count at i w g (ltb-true _ _ q))))
        by_cases false q = ltb-false _ _ q

    pub returns-read : d.count ≡ 0 → Scans s S T (Ok tt)
    returns-read z = end_complete s S T d.due d.count at i g over z

    pub returns-missing : {f : Refused} → (d.count ≡ 0 → ⊥) → f ≡ record { number = 11; line = n + 1 } → Scans s S T (Err f)
    returns-missing z e =
        let k : n ≡ i = omega (arith, g.lines, w.cells) in
        rw (e, k) (scans_refused s S T _ (end_missing s S T d.due d.count at i g over z) g.size)

  -- ... or a line is left
  module _ {n : ℕ} (t : n ≡ line_count S) (j : i < n) {o : Result code.Sort Refused} (p : o ≡ sort_or (i + 1) T d.due d.count) where
    h : at < length s
    h = by_cases (ltb at (length s)) refl
      where
        by_cases : (b : Bool) → ltb at (length s) ≡ b → at < length s
        by_cases true q = ltb-true _ _ q
        by_cases false q = absurd (omega (arith, g.lines, w.cells, ap length (no_lines s at (ltb-false _ _ q))))

    pub returns-sortless : {f : Refused} → o ≡ Err f → Scans s S T (Err f)
    returns-sortless {f} q = scans_refused s S T f (turn_sortless s S T d.due d.count at i w g h o f p q) g.size

    module _ {f : ℕ} (e : Found s at f) where
      pub after_start : at ≤ f + 1
      after_start = omega arith

      pub before_end : f + 1 ≤ length s
      before_end = omega (arith, line_ends s at w.terminated h)

      pub end_fits : Fits w64 (f + 1)
      end_fits = let b = before_end in omega (arith, w.small)

      pub falls : length s - (f + 1) < length s - at
      falls = let q = h in omega (arith, e)

      pub line-within : at + length (take (f + 1 - at) (drop at s)) ≤ 65535
      line-within = let b = before_end in simp (length-take, length-drop) (omega (arith, w.small))

      module _ {σ : code.Sort} (q : o ≡ Ok σ) {r : Result Line Refused} (u : Got s at i σ f r) where
        sort : (d.count ≡ 0 → ⊥) × (d.count ≤ 65) × (σ ≡ sort_from (sort_due T d.due d.count))
        sort = turn_sort s S T d.due d.count at i w g h o σ p q

        pub returns-bad : {a : Refused} → r ≡ Err a → Scans s S T (Err a)
        returns-bad {a} b =
            let x = told_bad (i + 1) _ a (sym (turn_read s S T d.due d.count at i w g h σ f r e u) ∙ b) in
            scans_refused s S T a (turn_bad s S T d.due d.count at i w g h sort.0 sort.1 σ sort.2 a.number x.0 ∙ ap (λ f. refused a.number f.line) (sym x.1)) g.size

        -- the line is read
        module _ {l : Line} (b : r ≡ Ok l) where
          is : (x : spec.Line) × (read_line (sort_meant σ) at (upto (either 10 10) (drop at s)) ≡ good x) × (l ≡ code_line x)
          is = told_good (i + 1) _ l (sym (turn_read s S T d.due d.count at i w g h σ f r e u) ∙ b)

          pub puts : (i < line_count T) × Small l
          puts =
              let x = is in (
                turn_room s S T d.due d.count at i w g h sort.0 sort.1 σ sort.2 l x.0 x.1 x.2,
                turn_small s S T d.due d.count at i w g h sort.0 sort.1 σ sort.2 l x.0 x.1 x.2,
              )

          module _ {m : ℕ} (k : m ≡ l.first + l.second + l.third) where
            pub takes : Top d.due d.count i m
            takes = let x = is in rw k (turn_top s S T d.due d.count at i w g h sort.0 sort.1 σ sort.2 l x.0 x.1 x.2)

            pub goes_on : {U : List ℕ} {c : Depths} → U ≡ put_line T i l → c ≡ taken d i m → Going s S U c.due c.count (f + 1) (i + 1)
            goes_on {U} y v = let x = is in rw (v, k) (turn_next s S T d.due d.count at i w g h sort.0 sort.1 σ sort.2 l x.0 x.1 x.2 U y f e)
