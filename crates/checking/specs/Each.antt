-- A step that is called at each item of a kind, until it refuses.
use Rattle.std.specs.Prelude.{ℕ, List, ◌≡◌, ◌≢◌, length, Result, Ok}
use Rattle.grammar.specs.Grammar as grammar
use Rattle.sheet.specs.Scratch.{kind_at, item_count}
use Rattle.rules.specs.Kept.{Table}
use Rattle.rules.specs.Standing.{Here, node_at, nodes_at}
use Rattle.lookups.specs.Found.{of_kind}
use Rattle.refusals.specs.declared.refusal.Refusal.{Refusal}
use Rattle.refusals.specs.Refusal.{done_of}
use Rattle.typing.specs.Each.{Step, Doing, kept_each}
use denote.Ref.{MutBor}

-- a step may be called at each item of kind k, with a table of the length of T
abbrev pub TakesItems : (MutBor Table → ℕ → Type 0) → List ℕ → Table → (k : ℕ) → Type 0
TakesItems pre S T k = (shown : MutBor Table) (i : ℕ) → length shown.now ≡ length T → Here S grammar.Item i → kind_at S i ≡ k → pre shown i

-- what the step answers and leaves where the record is of kind k; another is passed over
pub data GivesOf (k : ℕ) (S : List ℕ) (P : Step) : ℕ → Table → Result Unit Refusal → Table → Type 0 where
  its_kind : {i : ℕ} {T U : Table} {r : Result Unit Refusal} → kind_at S i ≡ k → P i T r U → GivesOf k S P i T r U
  other_kind : {i : ℕ} {T : Table} → kind_at S i ≢ k → GivesOf k S P i T (Ok tt) T

-- r and U are `kept` of each rule that the step does at an item of kind k, at all items of that kind
abbrev pub DoesItems : ℕ → Step → (s S : List ℕ) → Table → Result Unit Refusal → Table → Type 0
DoesItems k P s S T r U =
    (f : Doing)
    → ((j : ℕ) (V : Table) (d : Result Unit Refusal) (W : Table) → Here S grammar.Item j → kind_at S j ≡ k → P j V d W → f (node_at s j) V ≡ record { res = done_of s d; table = W })
    → kept_each f (of_kind k (nodes_at s (item_count S 0) 1)) T ≡ record { res = done_of s r; table = U }
