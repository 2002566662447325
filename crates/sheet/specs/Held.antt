-- What the loaded lines hold: each line its record, and all of them the sheet's tree.
use Rattle.std.specs.Prelude.{ℕ, zero, suc, ◌+◌, ◌<◌, ◌≤◌, List, [], ◌∷◌, ◌++◌, Bool, true, false, ◌≡◌, length, get_or}
use Rattle.grammar.specs.Grammar as grammar
use Rattle.sheet.specs.Line as line
use Rattle.sheet.specs.Tree.{Node, node, Nodes, nil, more, total}
use Rattle.sheet.specs.Load.{sorts}
use Rattle.grammar.specs.Table.{numbers_in, sorts_in, group_sorts, most_groups}
use Rattle.sheet.specs.Step.{code_line}
use Rattle.sheet.specs.Scratch.{cell, kind_at, op_at, start_at, end_at, name_at, Small, name_cell, length_cell, first_count, second_count, third_count, kind_range}
use Rattle.sheet.specs.Say.{span_at, nspan_at}

-- line i's cells say the line l
pub record Says (S : List ℕ) (i : ℕ) (l : line.Line) : Type 0 where
  pub kind : kind_at S i ≡ l.kind
  pub op : op_at S i ≡ l.op
  pub at : start_at S i ≡ l.at
  pub start : cell S i name_cell ≡ l.start
  pub len : cell S i length_cell ≡ length l.name
  pub first : first_count S i ≡ get_or (numbers_in l.parts) 0 0
  pub second : second_count S i ≡ get_or (numbers_in l.parts) 1 0
  pub third : third_count S i ≡ get_or (numbers_in l.parts) 2 0

mutual
  -- a tree at line i, in the first n lines: the line says its record, and its parts stand behind it, up to the line after them
  pub data Held (S : List ℕ) (n : ℕ) : ℕ → Node → Type 0 where
    held : {i : ℕ} {l : line.Line} {ps : Nodes} → i < n → Says S i l → HeldAll S n (suc i) (end_at S i) ps → Held S n i (node i l ps)

  -- trees one behind another, from line i up to line j
  pub data HeldAll (S : List ℕ) (n : ℕ) : ℕ → ℕ → Nodes → Type 0 where
    no_tree : {i : ℕ} → HeldAll S n i i nil
    tree : {i j : ℕ} {t : Node} {ns : Nodes} → Held S n i t → HeldAll S n (end_at S i) j ns → HeldAll S n i j (more t ns)

-- lines that are just as many as are due: k records, and the parts of each
pub data Due : ℕ → List line.Line → Type 0 where
  done : Due zero []
  next : {k : ℕ} {l : line.Line} {ls : List line.Line} → Due (total l.parts + k) ls → Due (suc k) (l ∷ ls)

-- a line that cells can say
pub record Sound (l : line.Line) : Type 0 where
  pub small : Small (code_line l)
  pub kind : l.kind < kind_range
  pub groups : length l.parts ≤ most_groups

-- P of each line, the first of which is line i
pub data Each (P : ℕ → line.Line → Type 0) : ℕ → List line.Line → Type 0 where
  no_line : {i : ℕ} → Each P i []
  one : {i : ℕ} {l : line.Line} {ls : List line.Line} → P i l → Each P (suc i) ls → Each P i (l ∷ ls)

mutual
  -- P of each line of a tree
  pub data Every (P : ℕ → line.Line → Type 0) : Node → Type 0 where
    every : {i : ℕ} {l : line.Line} {ps : Nodes} → P i l → EveryOf P ps → Every P (node i l ps)

  pub data EveryOf (P : ℕ → line.Line → Type 0) : Nodes → Type 0 where
    no_more : EveryOf P nil
    and_more : {t : Node} {ns : Nodes} → Every P t → EveryOf P ns → EveryOf P (more t ns)

-- no field is a SPAN
abbrev pub spanless : List grammar.Rule → Bool
spanless [] = true
spanless (grammar.span ∷ rs) = false
spanless (grammar.name ∷ rs) = spanless rs
spanless (grammar.text ∷ rs) = spanless rs
spanless (grammar.assign_op ∷ rs) = spanless rs
spanless (grammar.un_op ∷ rs) = spanless rs
spanless (grammar.bin_op ∷ rs) = spanless rs
spanless (grammar.count s ∷ rs) = spanless rs
spanless (grammar.flag s ∷ rs) = spanless rs

-- what line i says in the sheet s itself: its name, its span where it has one, and a dot's second span
pub record Spells (s S : List ℕ) (i : ℕ) (l : line.Line) : Type 0 where
  pub name : name_at s S i ≡ l.name
  pub span : (rs : List grammar.Rule) → (grammar.record_of l.kind).rules ≡ grammar.span ∷ rs → span_at s S i ≡ get_or l.spans 0 0
  pub nspan : (grammar.record_of l.kind).rules ≡ grammar.span ∷ grammar.name ∷ grammar.span ∷ [] → nspan_at s S i ≡ get_or l.spans 1 0
  pub bare : spanless (grammar.record_of l.kind).rules ≡ true → get_or l.spans 0 0 ≡ 0

-- a kind of the records that may stand where a sort is due
abbrev pub Among : grammar.Sort → ℕ → Type 0
Among s k = (grammar.first_kind s ≤ k) × (k < grammar.first_kind s + length (grammar.records_for s))

-- a FLAG tells no part or one
abbrev pub Flagged : List grammar.Rule → List (ℕ × grammar.Sort) → Type 0
Flagged [] gs = Unit
Flagged (grammar.span ∷ rs) gs = Flagged rs gs
Flagged (grammar.name ∷ rs) gs = Flagged rs gs
Flagged (grammar.text ∷ rs) gs = Flagged rs gs
Flagged (grammar.assign_op ∷ rs) gs = Flagged rs gs
Flagged (grammar.un_op ∷ rs) gs = Flagged rs gs
Flagged (grammar.bin_op ∷ rs) gs = Flagged rs gs
Flagged (grammar.count s ∷ rs) [] = Unit
Flagged (grammar.count s ∷ rs) (g ∷ gs) = Flagged rs gs
Flagged (grammar.flag s ∷ rs) [] = Unit
Flagged (grammar.flag s ∷ rs) (g ∷ gs) = (g.0 ≤ 1) × Flagged rs gs

-- the parts of a line: those that its record always has, and those that its fields tell
pub record Parted (l : line.Line) : Type 0 where
  pub sorts : sorts_in l.parts ≡ group_sorts (grammar.record_of l.kind)
  pub always : (gs : List (ℕ × grammar.Sort)) × (l.parts ≡ (grammar.record_of l.kind).always ++ gs) × Flagged (grammar.record_of l.kind).rules gs

mutual
  -- a tree where a sort is due: its record may stand there, and its parts are of the sorts that the record tells
  pub data Formed : grammar.Sort → Node → Type 0 where
    formed : {s : grammar.Sort} {i : ℕ} {l : line.Line} {ps : Nodes} → Among s l.kind → Parted l → FormedAll (sorts l.parts) ps → Formed s (node i l ps)

  pub data FormedAll : List grammar.Sort → Nodes → Type 0 where
    none_due : FormedAll [] nil
    one_due : {s : grammar.Sort} {ss : List grammar.Sort} {t : Node} {ns : Nodes} → Formed s t → FormedAll ss ns → FormedAll (s ∷ ss) (more t ns)

-- the cells S of the n lines of the sheet s hold its tree t
pub record Holding (s S : List ℕ) (n : ℕ) (t : Node) : Type 0 where
  pub formed : Formed grammar.Contract t
  pub held : Held S n 0 t
  pub all : end_at S 0 ≡ n
  pub spells : Every (Spells s S) t
