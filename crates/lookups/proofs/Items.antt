-- The entries of a model, item by item. Assumes nothing.
use mathlib.Core.Logic.{◌≢◌}
use mathlib.Core.Path.{◌≡◌, refl, sym, ◌∙◌}
use mathlib.Core.List.{List, [], ◌∷◌, map}
use Prim.Native.Nat.{ℕ, ◌<◌, ◌≤◌}
use native.Mathlib.Omega.{arith}
use Rattle.grammar.specs.Grammar as grammar
use Rattle.sheet.specs.Scratch.{kind_at}
use Rattle.sheet.specs.Tree.{Node, node}
use Rattle.rules.specs.Ast.{Entry, item_of, entry_of}
use Rattle.rules.specs.Model.{item_model, joined, build}
use Rattle.rules.specs.Standing.{node_at, entry_at, Loaded, Here}
use Rattle.rules.proofs.Parts.{stop, ◌also◌, pick}
use Rattle.rules.proofs.Standing.{stands}
use Rattle.lookups.specs.Found.{node_kind}
use Rattle.grammar.specs.Kinds as kinds

-- the entries of a model that is built from items
abbrev pub entries_of : List Node → List Entry
entries_of ts = (build (map item_of ts)).entries

is_entry : (t : Node) → node_kind t ≡ kinds.entry → (item_model (item_of t)).entries ≡ entry_of t ∷ []
unfolding node_kind item_model item_of entry_of
is_entry (node i l ps) e = rw (item_of, e) refl

no_entry : (t : Node) → kinds.state ≤ node_kind t → node_kind t < kinds.field → node_kind t ≢ kinds.entry → (item_model (item_of t)).entries ≡ []
unfolding node_kind item_model item_of
no_entry (node i l ps) a b h =
    pick {P = λ k. l.kind ≡ k → (item_model (item_of (node i l ps))).entries ≡ []} {i = kinds.state} {n = 5} l.kind
    ((λ e. rw e refl) also (λ e. rw e refl) also (λ e. rw e refl) also (λ e. rw e refl) also (λ e. absurd (h e)) also stop)
    a b refl

module _ {s S : List ℕ} (d : Loaded s S) {i : ℕ} (h : Here S grammar.Item i) (ts : List Node) where
  kind : node_kind (node_at s i) ≡ kind_at S i
  unfolding node_kind
  kind = let t = stands d i h.within in rw t.here (sym t.says.kind)

  -- an entry is the first of them, any other item is none
  pub entries_next : kind_at S i ≡ kinds.entry → entries_of (node_at s i ∷ ts) ≡ entry_at s i ∷ entries_of ts
  unfolding build joined entry_at
  entries_next e = rw (is_entry (node_at s i) (kind ∙ e)) refl

  pub entries_other : kind_at S i ≢ kinds.entry → entries_of (node_at s i ∷ ts) ≡ entries_of ts
  unfolding build joined
  entries_other e = rw (no_entry (node_at s i) (omega (arith, kind, h.kind.0)) (omega (arith, kind, h.kind.1)) (λ z. e (sym kind ∙ z))) refl
