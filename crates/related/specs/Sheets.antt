-- What the theorems about two sheets speak of.
use Rattle.std.specs.Prelude.{ℕ, ◌≡◌, ◌⊎◌, List, ◌∷◌, ◌++◌, map, length, None}
use Rattle.sheet.specs.Line.{Line}
use Rattle.sheet.specs.Load.{lines, load}
use Rattle.sheet.specs.Tree.{trees}
use Rattle.sheet.specs.Held.{Due}
use Rattle.rules.specs.Ast.{Entry, nodes, item_of}
use Rattle.rules.specs.Asking.{Res, ok, fresh}
use Rattle.rules.specs.Model.{Model, build, field_named, event_named}
use Rattle.rules.specs.Check.{check_entry, check}
use Rattle.rules.specs.Verdict.{model_of}
use Rattle.grammar.specs.Kinds as kinds

-- the sheet s is read, with these lengths of the lent type table and scratch, and the rules refuse nothing
pub record AcceptedSheet (s : List ℕ) (types scratch : ℕ) : Type 0 where
  pub records : List Line
  pub read : load s types scratch ≡ lines records
  pub passed : (fresh (check (model_of records))).res ≡ ok tt

-- what an entry's own check comes to
abbrev pub result_in : Model → Entry → Res Unit
result_in m e = (fresh (check_entry m e)).res

-- those of all entries, in sheet order
unfoldable pub results : Model → List (Res Unit)
results m = map (result_in m) m.entries

-- how many entries the items of these lines have
unfoldable pub entries_in : List Line → ℕ
entries_in ls = length (build (map item_of (nodes (trees 1 ls)))).entries

-- two lists that are the same but for place n, counted from 0
pub record ButOne {A : Type 0} (n : ℕ) (xs ys : List A) : Type 0 where
  pub before : List A
  pub after : List A
  pub one : A
  pub other : A
  pub place : length before ≡ n
  pub left : xs ≡ before ++ (one ∷ after)
  pub right : ys ≡ before ++ (other ∷ after)

-- a sheet that is read: a first line c, the lines a of some items, an entry's line e and its parts m, and the lines z of the other items
pub record Around (c e : Line) (a m z : List Line) : Type 0 where
  pub read : (s : List ℕ) × (types : ℕ) × (scratch : ℕ) × (load s types scratch ≡ lines (c ∷ (a ++ ((e ∷ m) ++ z))))
  pub items : (n : ℕ) × Due n a
  pub one : Due 1 (e ∷ m)
  pub is_entry : e.kind ≡ kinds.entry

-- the line names no state field of the model n, by an `id` or as a `field`, and no event of it, by an `emit`
pub record Foreign (n : Model) (l : Line) : Type 0 where
  pub field : (l.kind ≡ kinds.id) ⊎ (l.kind ≡ kinds.field) → field_named n l.name ≡ None
  pub event : l.kind ≡ kinds.emit → event_named n l.name ≡ None
