-- The NAME or TEXT of a line that is read has at most 64 bytes, and that of a literal only digits and underscores, as `AddsLiteral` wants it. Assumes nothing.
use mathlib.Core.Path.{◌≡◌, refl, sym, ◌∙◌, subst}
use mathlib.Core.List.{List, [], ◌∷◌}
use mathlib.Core.Bool.{Bool, true, false, ◌&&◌, and-eq-true_iff}
use Prim.Native.Nat.{ℕ, zero, suc, ◌+◌, ◌<◌, ◌≤◌}
use native.Mathlib.Omega.{arith}
use lib.Dec.{leb}
use lib.ListN.{length}
use borrow.Author.Tests.{leb-true}
use Rattle.text.specs.Text.{all}
use Rattle.std.specs.Prelude.{Some, None, Option}
use Rattle.text.specs.Field.{Number, plain, is_plain, is_name, is_text}
use Rattle.grammar.specs.Grammar.{Sort, Rule, span, name, text, assign_op, un_op, bin_op, count, flag, record_of, kind_for}
use Rattle.sheet.specs.Line.{Line, with_name, begun, when, on_number, read_field, read_fields, and_then, good, read_pieces, read_line, fields_of}
use Rattle.sheet.specs.Load.{LoadResult as Load, lines, refused, lines_of, scan}
use Rattle.sheet.specs.Held.{Each, no_line, one, Every, every, EveryOf, no_more, and_more}
use Rattle.sheet.specs.Scan.{scan_all}
use Rattle.sheet.specs.Scratch.{kind_at, name_at, line_count}
use Rattle.sheet.specs.Tree.{node, Nodes}
use Rattle.sheet.proofs.Holds.{judged_lines}
use Rattle.sheet.proofs.Loaded.{built, every_first, every_line}
use Rattle.sheet.proofs.ReadAs.{read_as_lem}
use Rattle.rules.specs.Standing.{drop_lines, trees_from, Loaded}
use Rattle.sheet.specs.Loaded.{read_lines, lines_in}
use Rattle.rules.proofs.Standing.{Stands, stands, spells_before}
use Rattle.grammar.specs.Kinds as kinds

-- ------------------------------------------------------------ a line that is read

-- what is known of a line's NAME or TEXT, which may be empty
pub record Named (l : Line) : Type 0 where
  pub short : length l.name ≤ 64
  pub literal : l.kind ≡ kinds.int → all (plain false) l.name ≡ true

plain_parts : (b : Bool) (f : List ℕ) → is_plain b f ≡ true → (length f ≤ 64) × (all (plain b) f ≡ true)
plain_parts b f e =
    let h = (and-eq-true_iff (leb 1 (length f) && leb (length f) 64) (all (plain b) f)).0 e in
    (leb-true (length f) 64 ((and-eq-true_iff (leb 1 (length f)) (leb (length f) 64)).0 h.0).1, h.1)

name-plain : (f : List ℕ) → is_name f ≡ true → is_plain true f ≡ true
unfolding is_name
name-plain f e = ((and-eq-true_iff (is_plain true f) _).0 e).0

when_some : (b : Bool) (l m : Line) → when b l ≡ Some m → (b ≡ true) × (m ≡ l)
unfolding when
when_some true l m e = (refl, let q : l ≡ m = cc in sym q)
when_some false l m e = absurd (let z : ◌≡◌ {A = ℕ} 0 1 = cc in omega arith)

number_some : (v : Number) (f : ℕ → Line) (m : Line) → on_number v f ≡ Some m → (n : ℕ) × (m ≡ f n)
unfolding on_number
number_some (Some v) f m e = (v, let q : f v ≡ m = cc in sym q)
number_some None f m e = absurd (let z : ◌≡◌ {A = ℕ} 0 1 = cc in omega arith)

-- a line of kind k with some of its fields read
abbrev Begun : ℕ → Line → Type 0
Begun k l = (l.kind ≡ k) × (length l.name ≤ 64)

field-begun : (k : ℕ) (r : Rule) (a : ℕ) (f : List ℕ) (l m : Line) → read_field r a f l ≡ Some m → Begun k l → Begun k m
unfolding read_field
field-begun k span a f l m e h = rw (number_some _ _ m e).1 h
field-begun k name a f l m e h = let w = when_some _ _ m e in rw w.1 (h.0, (plain_parts true f (name-plain f w.0)).0)
field-begun k text a f l m e h = let w = when_some _ _ m e in rw w.1 (h.0, (plain_parts false f w.0).0)
field-begun k (count s) a f l m e h = rw (number_some _ _ m e).1 h
field-begun k (flag s) a f l m e h = rw (number_some _ _ m e).1 h
field-begun k assign_op a f l m e h = rw (when_some _ _ m e).1 h
field-begun k un_op a f l m e h = rw (when_some _ _ m e).1 h
field-begun k bin_op a f l m e h = rw (when_some _ _ m e).1 h

then_some : (o : Option Line) (g : Line → Option Line) (m : Line) → and_then o g ≡ Some m → (l : Line) × (o ≡ Some l) × (g l ≡ Some m)
unfolding and_then
then_some (Some l) g m e = (l, refl, e)
then_some None g m e = absurd (let z : ◌≡◌ {A = ℕ} 0 1 = cc in omega arith)

fields-begun : (k : ℕ) (rs : List Rule) (a : ℕ) (fs : List (List ℕ)) (l m : Line) → read_fields rs a fs l ≡ Some m → Begun k l → Begun k m
unfolding read_fields
fields-begun k [] a fs l m e h = let q : l ≡ m = cc in rw (← q) h
fields-begun k (r ∷ rs) a [] l m e h = absurd (let z : ◌≡◌ {A = ℕ} 0 1 = cc in omega arith)
fields-begun k (r ∷ rs) a (f ∷ fs) l m e h =
    let t = then_some _ _ m e in fields-begun k rs _ fs t.0 m t.2 (field-begun k r a f l t.0 t.1 h)

last_text : (a : ℕ) (fs : List (List ℕ)) (l m : Line) → read_fields (text ∷ []) a fs l ≡ Some m → is_text m.name ≡ true
unfolding read_fields read_field
last_text a [] l m e = absurd (let z : ◌≡◌ {A = ℕ} 0 1 = cc in omega arith)
last_text a (f ∷ fs) l m e =
    let t = then_some _ _ m e in
    let w = when_some (is_text f) (with_name l a f) t.0 t.1 in
    let q : t.0 ≡ m = cc in
    rw (← q, w.1) w.0

literal_text_lem : (a : ℕ) (fs : List (List ℕ)) (l m : Line) → read_fields (span ∷ text ∷ []) a fs l ≡ Some m → is_text m.name ≡ true
unfolding read_fields
literal_text_lem a [] l m e = absurd (let z : ◌≡◌ {A = ℕ} 0 1 = cc in omega arith)
literal_text_lem a (f ∷ fs) l m e = let t = then_some _ _ m e in last_text _ fs t.0 m t.2

pieces_named : (σ : Sort) (at : ℕ) (fs : List (List ℕ)) (l : Line) → read_pieces σ at fs ≡ good l → Named l
unfolding read_pieces
pieces_named σ at [] l e = absurd (let z : ◌≡◌ {A = ℕ} 0 1 = cc in omega arith)
pieces_named σ at (w ∷ fs) l e =
    let k = kind_for σ w in
    let a = at + length w + 1 in
    let r = (read_as_lem k at (length w) fs l e).1 in
    let b = fields-begun k (record_of k).rules a fs (begun k at) l r (refl, omega arith) in
    let by_kind : l.kind ≡ kinds.int → read_fields (span ∷ text ∷ []) a fs (begun k at) ≡ Some l =
    λ q. subst (λ j. read_fields (record_of j).rules a fs (begun k at) ≡ Some l) (sym b.0 ∙ q) r in
    record { short = b.1; literal = λ q. (plain_parts false l.name (literal_text_lem a fs (begun k at) l (by_kind q))).1 }

pub lines_named : (ls : List (List ℕ)) (i j at : ℕ) (ds : List (ℕ × Sort)) (xs : List Line) → scan i at ds ls ≡ lines xs → Each (λ k. Named) j xs
unfolding scan read_line
lines_named [] i j at [] xs e = let n : xs ≡ [] = cc in rw n no_line
lines_named [] i j at (d ∷ ds) xs e = absurd (let z : ◌≡◌ {A = ℕ} 0 1 = cc in omega arith)
lines_named (l ∷ ls) i j at [] xs e = absurd (let z : ◌≡◌ {A = ℕ} 0 1 = cc in omega arith)
lines_named (l ∷ ls) i j at (d ∷ ds) xs e =
    let r = judged_lines _ _ i _ xs e in
    rw r.4 (one (pieces_named d.1 at (fields_of l) r.0 r.2) (lines_named ls _ (suc j) _ _ _ r.3))

-- ------------------------------------------------------------ what stands at a line

every_without : {P : ℕ → Line → Type 0} (k : ℕ) {ns : Nodes} → EveryOf P ns → EveryOf P (drop_lines k ns)
unfolding drop_lines
every_without zero h = h
every_without (suc k) no_more = no_more
every_without (suc k) (and_more (every h ps) ns) = every_without k (spells_before ps ns)

read_each : {P : ℕ → Line → Type 0} (r : Load) → ((xs : List Line) → r ≡ lines xs → Each P 0 xs) → Each P 0 (read_lines r)
unfolding read_lines
read_each (lines xs) h = h xs refl
read_each (refused n i) h = no_line

-- what holds of each line that is read holds of every line of the record at line i
pub every_at : {P : ℕ → Line → Type 0} {s S : List ℕ} {i : ℕ} (t : Stands s S i) → ((xs : List Line) → scan_all s ≡ lines xs → Each P 0 xs)
    → Every P (node i t.line t.parts)
unfolding trees_from lines_in
every_at {s = s} {i = i} t h = rw t.here at (every_first (rw t.next at (every_without i (built (read_each (scan_all s) h))))).0

pub literal-plain : (s S : List ℕ) (i : ℕ) → Loaded s S → i < line_count S → kind_at S i ≡ kinds.int → all (plain false) (name_at s S i) ≡ true
literal-plain s S i d h e =
    let t = stands d i h in
    rw t.spells.name ((every_line (every_at t (λ xs. lines_named (lines_of s) 1 0 0 _ xs))).0.literal (sym t.says.kind ∙ e))
