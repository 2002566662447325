-- Sheets of a few lines that meet the premises of `texts_verdict`, `all_but_one`, `idle_clauses` and `joined_number`. Assumes nothing.
use mathlib.Core.Path.{◌≡◌, refl, sym, ap, ◌∙◌}
use mathlib.Core.Logic.{◌⊎◌, inl}
use mathlib.Core.List.Forall₂.{cons as cons₂}
use mathlib.Core.List.Forall₂.{nil as nil₂}
use mathlib.Core.List.{List, [], ◌∷◌, ◌++◌}
use Prim.Native.Nat.{ℕ, ◌*◌}
use lib.ListN.{take, drop}
use Rattle.std.specs.Prelude.{None}
use Rattle.text.specs.Text.{bytes, either}
use Rattle.text.proofs.Pieces.{ended-append}
use Rattle.grammar.specs.Grammar as grammar
use Rattle.sheet.specs.Line.{Line}
use Rattle.sheet.specs.Load.{lines_of, copies, load}
use Rattle.sheet.specs.Scratch.{cells_per_line}
use Rattle.sheet.specs.Tree.{Node, Nodes, nil, more, trees, before}
use Rattle.sheet.specs.Held.{done, next, Formed, FormedAll}
use Rattle.sheet.specs.Same.{same_bytes, int_texts}
use Rattle.sheet.specs.Joined.{Reads, Joins}
use Rattle.sheet.proofs.Forms.{formed_one}
use Rattle.sheet.proofs.Trees.{all_formed}
use Rattle.sheet.proofs.Twins.{no_twin, moved}
use Rattle.rules.specs.Asking.{Res, fresh}
use Rattle.rules.specs.Check.{check}
use Rattle.rules.specs.Model.{Model, field_named, event_named}
use Rattle.sheet.specs.Loaded.{read_lines}
use Rattle.rules.specs.Computed.{computed}
use Rattle.rules.specs.Verdict.{model_of, verdict}
use Rattle.related.specs.Sheets.{results, entries_in, ButOne, Foreign}
use Rattle.related.proofs.LikeEntries.{idle}
use Rattle.related.proofs.Sheets.{items_read}
use Rattle.related.proofs.IdleClauses.{entry_parts, entry-trees, s_nil, s_skip, EntryPair, p_nil, p_entry, idle_clauses}
use Rattle.related.proofs.JoinedSheets.{joined_number}
use Rattle.related.proofs.OneEntry.{all_but_one}
use Rattle.related.proofs.Texts.{texts_verdict}

-- lines, each ended by LF
abbrev sheet : List (List ℕ) → List ℕ
sheet [] = []
sheet (l ∷ ls) = l ++ (10 ∷ sheet ls)

abbrev level : List ℕ → List ℕ
level n = sheet (bytes "contract,1" ∷ bytes "state,1" ∷ bytes "field,10,level,1" ∷ bytes "type,11,u8,0" ∷ (bytes "int,17," ++ n) ∷ [])

-- 300 for 200
other_text : ((verdict (level (bytes "300")) 5 (cells_per_line * 5) 100).number ≡ 0) ⊎ (((verdict (level (bytes "300")) 5 (cells_per_line * 5) 100).number ≡ 27) ⊎ ((verdict (level (bytes "300")) 5 (cells_per_line * 5) 100).number ≡ 42))
unfolding computed read_lines
other_text =
    let s = level (bytes "200") in
    let z = level (bytes "300") in
    texts_verdict s z 5 (cells_per_line * 5) 100 5 (cells_per_line * 5) 100 (read_lines (load s 5 (cells_per_line * 5))) (read_lines (load z 5 (cells_per_line * 5))) refl refl
    (cons₂ same_bytes (cons₂ same_bytes (cons₂ same_bytes (cons₂ same_bytes (cons₂ (int_texts (bytes "17") (bytes "200") (bytes "300") refl refl) nil₂)))))
    refl

-- a u8 cannot hold it
number_other : (verdict (level (bytes "300")) 5 (cells_per_line * 5) 100).number ≡ 27
unfolding computed
number_other = refl

abbrev head : List Line → Line
head [] = record { kind = 0; at = 0; op = 0; spans = []; start = 0; name = []; parts = [] }
head (l ∷ ls) = l

-- a sheet of three entries, the second with a body of two lines
abbrev entries_with : List (List ℕ) → List ℕ
entries_with body = sheet (bytes "contract,3" ∷ bytes "entry,0,0,0" ∷ bytes "entry,0,0,1" ∷ (body ++ (bytes "entry,0,0,0" ∷ [])))

abbrev lines_with : List (List ℕ) → List Line
lines_with body = read_lines (load (entries_with body) 6 (cells_per_line * 6))

-- a body that passes, and one that is refused: the other two entries come to the same
one_entry :
    let xs = lines_with (bytes "do" ∷ bytes "now,1" ∷ []) in
    let ys = lines_with (bytes "guard" ∷ bytes "int,1,5" ∷ []) in
    ButOne 1 (results (model_of xs)) (results (model_of ys))
unfolding computed read_lines entries_in
one_entry =
    let x = bytes "do" ∷ bytes "now,1" ∷ [] in
    let y = bytes "guard" ∷ bytes "int,1,5" ∷ [] in
    let xs = lines_with x in
    let ys = lines_with y in
    all_but_one {c = head xs} {e = head (drop 2 xs)} {a = take 1 (drop 1 xs)} {m = take 2 (drop 3 xs)} {z = drop 5 xs} {c' = head ys} {e' = head (drop 2 ys)} {a' = take 1 (drop 1 ys)} {m' = take 2 (drop 3 ys)} {z' = drop 5 ys}
    (record { read = (entries_with x, 6, cells_per_line * 6, refl); items = (1, next done); one = next (next (next done)); is_entry = refl })
    (record { read = (entries_with y, 6, cells_per_line * 6, refl); items = (1, next done); one = next (next (next done)); is_entry = refl })
    (cons₂ (record { kind = refl; op = refl; spans = refl; parts = refl; name = inl refl }) nil₂)
    (cons₂ (record { kind = refl; op = refl; spans = refl; parts = refl; name = inl refl }) nil₂)

-- a sheet of one entry: its line and clauses, before a statement
abbrev entry_with : List (List ℕ) → List ℕ
entry_with ls = sheet (bytes "contract,1" ∷ (ls ++ (bytes "guard" ∷ bytes "int,1,5" ∷ [])))

abbrev with_after : List ℕ
with_after = entry_with (bytes "entry,0,1,1" ∷ bytes "after,0,0" ∷ [])

abbrev without-after : List ℕ
without-after = entry_with (bytes "entry,0,0,1" ∷ [])

first_item : {t : Node} {ns : Nodes} (n : ℕ) → FormedAll (copies n grammar.Item) (more t ns) → Formed grammar.Item t
unfolding copies
first_item n f = formed_one (all_formed grammar.Item n f).1

-- with an `after` of no expression, and without it
idle_after :
    let xs = read_lines (load with_after 5 (cells_per_line * 5)) in
    let ys = read_lines (load without-after 4 (cells_per_line * 4)) in
    (fresh (check (model_of xs))).res ≡ (fresh (check (model_of ys))).res
unfolding computed read_lines before
idle_after =
    let xs = read_lines (load with_after 5 (cells_per_line * 5)) in
    let ys = read_lines (load without-after 4 (cells_per_line * 4)) in
    let f = items_read with_after 5 (cells_per_line * 5) (head xs) (drop 1 xs) refl in
    let g = items_read without-after 4 (cells_per_line * 4) (head ys) (drop 1 ys) refl in
    let p = entry_parts (first_item f.0 f.1) refl in
    let q = entry_parts (first_item g.0 g.1) refl in
    let a = entry-trees p nil (trees 2 (take 1 (drop 2 xs))) (trees 3 (drop 3 xs)) refl refl in
    let b = entry-trees q nil nil (trees 2 (drop 2 ys)) refl refl in
    let pair : EntryPair _ _ _ _ = record {
      left = p;
      right = q;
      params = rw (a.0, b.0) no_twin;
      clauses = rw (a.1, b.1) (s_skip idle s_nil);
      body = rw (a.2, b.2) (moved 3 2 (cons₂ (record { kind = refl; op = refl; spans = refl; parts = refl; name = inl refl }) (cons₂ (record { kind = refl; op = refl; spans = refl; parts = refl; name = inl refl }) nil₂)));
    } in
    let result : Model → Res Unit = λ m. (fresh (check m)).res in
    ap result f.2 ∙ idle_clauses (trees 1 (drop 1 xs)) (trees 1 (drop 1 ys)) f.0 f.1 (p_entry pair p_nil) ∙ sym (ap result g.2)

abbrev first_lines : List (List ℕ)
first_lines = bytes "state,1" ∷ bytes "field,1,x,0" ∷ bytes "type,2,u8,0" ∷ []

abbrev second_lines : List (List ℕ)
second_lines = bytes "invariant" ∷ bytes "bin,1,eq" ∷ bytes "id,2,y" ∷ bytes "now,3" ∷ []

-- whatever the line's kind
no_name : {n : Model} {l : Line} → field_named n l.name ≡ None → event_named n l.name ≡ None → Foreign n l
no_name e f = record { field = λ _. e; event = λ _. f }

-- a first line, and the bytes of both
abbrev both_bytes : List ℕ
both_bytes = sheet (bytes "contract,2" ∷ []) ++ (sheet first_lines ++ sheet second_lines)

both_lines : lines_of both_bytes ≡ bytes "contract,2" ∷ (first_lines ++ second_lines)
unfolding computed
both_lines =
    ended-append (either 10 10) [] (sheet (bytes "contract,2" ∷ [])) (sheet first_lines ++ sheet second_lines) tt
    ∙ ap (λ ls. bytes "contract,2" ∷ ls) (ended-append (either 10 10) [] (sheet first_lines) (sheet second_lines) tt)

-- a state and an invariant in one sheet
two_in_one : (verdict both_bytes 8 (cells_per_line * 8) 100).number ≡ 0
unfolding computed read_lines
two_in_one =
    let c = bytes "contract,1" in
    let s₁ = sheet (c ∷ first_lines) in
    let s₂ = sheet (c ∷ second_lines) in
    let x = read_lines (load s₁ 4 (cells_per_line * 4)) in
    let y = read_lines (load s₂ 5 (cells_per_line * 5)) in
    let one : Reads s₁ 4 (cells_per_line * 4) c first_lines (head x) (drop 1 x) = record { all = refl; read = refl } in
    let two : Reads s₂ 5 (cells_per_line * 5) c second_lines (head y) (drop 1 y) = record { all = refl; read = refl } in
    let both : Joins (head x) (head y) (first_lines ++ second_lines) both_bytes 8 (cells_per_line * 8) (bytes "contract,2") (head (read_lines (load both_bytes 8 (cells_per_line * 8)))) = record { all = both_lines; not_early = refl; first = refl; count = refl } in
    joined_number one two both 100 100 100
    (no_name refl refl, (no_name refl refl, (no_name refl refl, tt)))
    (no_name refl refl, (no_name refl refl, (no_name refl refl, (no_name refl refl, tt))))
    refl refl
