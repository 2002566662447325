-- The type that a field or parameter declares. Assumes nothing.
use mathlib.Core.Path.{◌≡◌, refl, sym, ◌∙◌}
use mathlib.Core.List.{List}
use mathlib.Core.Bool.{cond}
use Prim.Native.Nat.{ℕ, suc, ◌+◌, ◌<◌, ◌≤◌}
use native.Mathlib.Omega.{arith}
use native.Mathlib.Numerals.{add-one}
use borrow.Author.Tests.{lt-ltb, le-ltb}
use lib.Dec.{ltb}
use lib.ListN.{get_or}
use Rattle.sheet.specs.Held.{held, HeldAll, no_tree, tree}
use Rattle.sheet.specs.Scratch.{name_at, end_at, line_count}
use Rattle.sheet.specs.Tree.{Node, node, Nodes, before}
use Rattle.sheet.proofs.Holds.{all_le}
use Rattle.rules.specs.Text.{render}
use Rattle.rules.specs.Ast.{blank_node, nodes, type_name, type_of, field_of, param_of}
use Rattle.rules.specs.Declarations.{type_text}
use Rattle.rules.specs.Standing.{trees_from, node_at, type_at, field_at, param_at, Loaded}
use Rattle.rules.proofs.Places.{there_or_not, no_cell, named_at_lem, type-name_at}
use Rattle.rules.proofs.Standing.{stands, beyond}
use Rattle.writing.specs.Types.{type_line}
use Rattle.writing.specs.Writing.{Adds}
use Rattle.writing.specs.declared.write.Message.{Message}

-- ------------------------------------------------------------ `type_line`

line_beyond : (S : List ℕ) (i : ℕ) → line_count S ≤ i → line_count S ≡ type_line S i
unfolding type_line
line_beyond S i h = rw (no_cell S i 2 h, le-ltb (suc i) 0 (omega arith)) refl

pub line_counted : (S : List ℕ) (i n : ℕ) → n ≡ line_count S → n ≤ i → n ≡ type_line S i
line_counted S i n e h = e ∙ line_beyond S i (omega (arith, e))

module _ (S : List ℕ) (i n : ℕ) (e : n ≡ end_at S i) where
  pub line_there : i + 1 < n → i + 1 ≡ type_line S i
  unfolding type_line
  line_there h = rw (← e, ← add-one i, lt-ltb (i + 1) n h) refl

  pub line_none : (m : ℕ) → m ≡ line_count S → n ≤ i + 1 → m ≡ type_line S i
  unfolding type_line
  line_none m f h = rw (← e, ← add-one i, le-ltb (i + 1) n h) f

-- ------------------------------------------------------------ `add_type_of` and `type_name_of`

module _ (s S : List ℕ) (d : Loaded s S) where
  no_type : type_at s (line_count S) ≡ type_of blank_node
  unfolding type_at
  no_type = rw (beyond d (line_count S) (omega arith)) refl

  -- the first of the trees from line i up to line j, as a type
  first_type : {n i j : ℕ} {ps : Nodes} (ns : Nodes) → trees_from s i ≡ before ps ns → HeldAll S n i j ps
      → type_at s (cond (ltb i j) i (line_count S)) ≡ type_of (get_or (nodes ps) 0 blank_node)
  unfolding type_at node_at before nodes
  first_type {i = i} ns e no_tree = rw (le-ltb i i (omega arith)) no_type
  first_type {i = i} {j} ns e (tree (held h y r) rs) = rw (lt-ltb i j (omega (arith, all_le r, all_le rs)), e) refl

  declared_at : (i : ℕ) → type_at s (type_line S i) ≡ (field_at s i).ty
  unfolding type_line field_at field_of nodes
  declared_at i =
      there_or_not d i
      (λ w. let t = stands d i w in rw t.here (first_type _ t.behind t.held))
      (λ w. rw (← line_beyond S i w, beyond d i w) no_type)

  module _ (i j : ℕ) (e : j ≡ type_line S i) where
    pub type_of_lem : (M N : Message) → Adds (render (type_text (type_at s j))) M N → Adds (render (type_text (field_at s i).ty)) M N
    type_of_lem M N x = rw (← declared_at i, ← e) x

    pub type_name_of : (y : List ℕ) → y ≡ name_at s S j → y ≡ type_name (field_at s i).ty
    type_name_of y f = rw (← declared_at i, ← e) (f ∙ named_at_lem d j ∙ sym (type-name_at s j))

-- ------------------------------------------------------------ parameters

same-type : (n : Node) → (param_of n).ty ≡ (field_of n).ty
unfolding param_of field_of
same-type (node i l ps) = refl

-- a parameter declares the type that a field at its line would
pub param_type : (s : List ℕ) (i : ℕ) → (param_at s i).ty ≡ (field_at s i).ty
unfolding param_at field_at
param_type s i = same-type (node_at s i)
