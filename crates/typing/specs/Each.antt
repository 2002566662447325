-- A step that is called at each of the records of a row, until it refuses.
use Rattle.std.specs.Prelude.{ℕ, suc, ◌<◌, List, [], ◌∷◌, ◌≡◌, length, Result, Ok, Err}
use Rattle.grammar.specs.Grammar.{Sort}
use Rattle.sheet.specs.Scratch.{end_at, skip}
use Rattle.sheet.specs.Tree.{Node}
use Rattle.rules.specs.Asking as asking
use Rattle.rules.specs.Kept.{Kept, Table}
use Rattle.rules.specs.Standing.{Here, Row, node_at, nodes_at}
use Rattle.refusals.specs.declared.refusal.Refusal.{Refusal}
use Rattle.refusals.specs.Refusal.{done_of}
use denote.Ref.{MutBor}

-- what a step answers and leaves at a line, with a table
abbrev pub Step : Type 1
Step = ℕ → Table → Result Unit Refusal → Table → Type 0

-- what a step promises of a call with a table and a line
abbrev pub Post : Type 1
Post = MutBor Table → ℕ → Result Unit Refusal → MutBor Table → Type 0

-- a step may be called at each of m records, the first at line i, with a table of the length of T
abbrev pub TakesEach : (MutBor Table → ℕ → Type 0) → List ℕ → Table → (m i : ℕ) → Type 0
TakesEach pre S T m i = (shown : MutBor Table) (k : ℕ) → length shown.now ≡ length T → k < m → pre shown (skip S k i)

-- a call of the step may answer r and leave U
pub record Gives (post : Post) (i : ℕ) (T : Table) (r : Result Unit Refusal) (U : Table) : Type 0 where
  pub shown : MutBor Table
  pub shows : shown.now ≡ T
  pub left : MutBor Table
  pub met : post shown i r left
  pub leaves : left.now ≡ U

-- the step at m records, the first at line i, until it refuses
pub data GivesEach (P : Step) (S : List ℕ) : (m i : ℕ) → Table → Result Unit Refusal → Table → Type 0 where
  over : {i : ℕ} {T : Table} → GivesEach P S 0 i T (Ok tt) T
  refused : {m i : ℕ} {T U : Table} {x : Refusal} → P i T (Err x) U → GivesEach P S (suc m) i T (Err x) U
  onward : {m i : ℕ} {T U W : Table} {r : Result Unit Refusal} → P i T (Ok tt) U → GivesEach P S m (end_at S i) U r W → GivesEach P S (suc m) i T r W

-- what is done at a record with a table, as `kept` of a rule tells it
abbrev pub Doing : Type 0
Doing = Node → Table → Kept Unit

-- goes on with the table where nothing was refused
unfoldable pub and_next : asking.Res Unit → Table → (Table → Kept Unit) → Kept Unit
and_next (asking.ok t) T f = f T
and_next (asking.refused r) T f = record { res = asking.refused r; table = T }

-- what is done at each of some records, until it refuses: `kept` of `for_each` (`kept-each`)
unfoldable pub kept_each : Doing → List Node → Table → Kept Unit
kept_each f [] T = record { res = asking.ok tt; table = T }
kept_each f (n ∷ ns) T = and_next (f n T).res (f n T).table (kept_each f ns)

-- r and U are `kept` of each rule that the step does at a record of the row, at m records, the first at line i
abbrev pub DoesRow : Step → (s S : List ℕ) → (m i : ℕ) → Table → Result Unit Refusal → Table → Type 0
DoesRow P s S m i T r U =
    (σ : Sort) (f : Doing) → Row S σ m i
    → ((j : ℕ) (V : Table) (d : Result Unit Refusal) (W : Table) → Here S σ j → P j V d W → f (node_at s j) V ≡ record { res = done_of s d; table = W })
    → kept_each f (nodes_at s m i) T ≡ record { res = done_of s r; table = U }
