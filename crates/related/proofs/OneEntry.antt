-- Request 3: of two sheets that differ in one entry only, the other entries' own checks come to the same. Assumes nothing.
use mathlib.Core.Path.{◌≡◌, refl, ap, ap₂, ◌∙◌}
use mathlib.Core.List.Forall₂.{cons as cons₂}
use mathlib.Core.List.Forall₂.{nil as nil₂}
use mathlib.Core.List.{List, [], ◌∷◌, ◌++◌, map, map-append, Forall₂}
use mathlib.Mathlib.Data.List.Forall2.Forall₂
use Prim.Native.Nat.{ℕ, suc, ◌+◌, ◌-◌}
use native.Mathlib.Omega.{arith}
use lib.ListN.{length, length-map}
use Rattle.grammar.specs.Grammar as grammar
use Rattle.sheet.specs.Line.{Line}
use Rattle.sheet.specs.Load.{copies}
use Rattle.sheet.specs.Tree.{node, Nodes, trees, before, tree_count}
use Rattle.sheet.specs.Held.{Due, FormedAll}
use Rattle.sheet.specs.Same.{SameLine}
use Rattle.sheet.proofs.Paired.{append₂}
use Rattle.sheet.proofs.Twins.{twins_map, MovedTwins, moved}
use Rattle.sheet.proofs.Trees.{trees_behind, first_tree, formed_parts}
use Rattle.rules.specs.Text.{Name}
use Rattle.rules.specs.Ast.{Entry, entry, nodes, entry_of, item_of}
use Rattle.rules.specs.Model.{Model, item_model, joined, build}
use Rattle.rules.specs.Verdict.{model_of}
use Rattle.related.specs.Sheets.{result_in, results, entries_in, ButOne, Around}
use Rattle.related.proofs.Alike.{Setting}
use Rattle.related.proofs.Compared.{renumbered, entry_renumbered}
use Rattle.related.proofs.Like.{Head, SameField}
use Rattle.related.proofs.LikeStatements.{SameEvent}
use Rattle.related.proofs.Sheets.{items_read, items_before}
use Rattle.related.proofs.TwinItems.{head_same, items_of, Heads, heads_of, every_field, every_event, all_named, part_of}
use Rattle.grammar.specs.Kinds as kinds

-- an entry alone
one_entry : (i : ℕ) (e : Line) (m : List Line) → Due 1 (e ∷ m) → e.kind ≡ kinds.entry → (x : Entry) × (items_of (trees i (e ∷ m)) ≡ joined (item_model (entry x)) (build []))
unfolding item_of entry_of nodes build
one_entry i e m d k =
    let z : e.kind - kinds.state ≡ kinds.entry - kinds.state = omega arith in
    (entry_of (node i e (trees (suc i) m)), rw (first_tree i e m d, z))

-- the model of the items a, an entry and the items z
record Divided (M : Model) (a z : Nodes) : Type 0 where
  one : Entry
  whole : M ≡ joined (items_of a) (joined (joined (item_model (entry one)) (build [])) (items_of z))
  ahead : FormedAll (copies (tree_count a) grammar.Item) a
  behind : FormedAll (copies (tree_count z) grammar.Item) z

divided : {c e : Line} {a m z : List Line} → Around c e a m z → Divided (model_of (c ∷ (a ++ ((e ∷ m) ++ z)))) (trees 1 a) (trees (1 + length a + length (e ∷ m)) z)
divided {c} {e} {a} {m} {z} h =
    let q = items_read h.read.0 h.read.1 h.read.2 c (a ++ ((e ∷ m) ++ z)) h.read.3 in
    let A = trees 1 a in
    let E = trees (1 + length a) (e ∷ m) in
    let Z = trees (1 + length a + length (e ∷ m)) z in
    let placed : trees 1 (a ++ ((e ∷ m) ++ z)) ≡ before A (before E Z) = trees_behind 1 ((e ∷ m) ++ z) h.items.1 ∙ ap (before A) (trees_behind (1 + length a) z h.one) in
    let x = one_entry (1 + length a) e m h.one h.is_entry in
    let f = formed_parts grammar.Item q.0 A (before E Z) (rw placed at q.1) in
    record {
      one = x.0;
      whole = q.2 ∙ ap items_of placed ∙ items_before A (before E Z) ∙ ap (joined (items_of A)) (items_before E Z ∙ ap (λ (n : Model). joined n (items_of Z)) x.1);
      ahead = f.0;
      behind = (formed_parts grammar.Item _ E Z f.1).1;
    }

same-results : {A B C : Type 0} (f : A → C) (g : B → C) {as' : List A} {bs : List B} → Forall₂ (λ a b. f a ≡ g b) as' bs → map f as' ≡ map g bs
same-results f g nil₂ = refl
same-results f g (cons₂ h r) = ap₂ ◌∷◌ h (same-results f g r)

all_results : {M : Model} {a z : Nodes} (h : Divided M a z) → results M ≡ map (result_in M) (items_of a).entries ++ (result_in M h.one ∷ map (result_in M) (items_of z).entries)
unfolding results joined item_model build
all_results {M} {a} h = ap (λ (n : Model). map (result_in M) n.entries) h.whole ∙ map-append (result_in M) (items_of a).entries _

module _ {M N : Model} {a z b y : Nodes} (h : Divided M a z) (k : Divided N b y) (ahead : MovedTwins a b) (behind : MovedTwins z y) where
  abbrev S : Setting
  S = renumbered M N

  heads : {ns ms : Nodes} → FormedAll (copies (tree_count ns) grammar.Item) ns → MovedTwins ns ms → Heads Head (items_of ns) (items_of ms)
  heads f t = heads_of (λ l k q. q) Head (λ t u f q. head_same f q) _ f t

  same_field : (x : Name) → SameField S x
  unfolding joined item_model build
  same_field = every_field S (rw (h.whole, k.whole) (append₂ (heads h.ahead ahead).fields (heads h.behind behind).fields))

  same-event : (x : Name) → SameEvent S x
  unfolding joined item_model build
  same-event = every_event S (rw (h.whole, k.whole) (ap₂ ◌++◌ (heads h.ahead ahead).events (heads h.behind behind).events))

  same : {ns ms : Nodes} → FormedAll (copies (tree_count ns) grammar.Item) ns → MovedTwins ns ms → map (result_in M) (items_of ns).entries ≡ map (result_in N) (items_of ms).entries
  same f t =
      same-results (result_in M) (result_in N)
      (Forall₂.imp (λ x y q. entry_renumbered M N x y q) (part_of {S = S} _ f (twins_map (all_named S same_field same-event) t)).entries)

  but_one : ButOne (length (items_of a).entries) (results M) (results N)
  but_one = record {
    before = map (result_in M) (items_of a).entries;
    after = map (result_in M) (items_of z).entries;
    one = result_in M h.one;
    other = result_in N k.one;
    place = length-map (items_of a).entries (result_in M);
    left = all_results h;
    right = all_results k ∙ rw (same h.ahead ahead, same h.behind behind);
  }

-- The results of all entries are the same but for that one, which stands behind those of the items ahead. Its parameters may differ too.
pub all_but_one : {c e : Line} {a m z : List Line} {c' e' : Line} {a' m' z' : List Line} → Around c e a m z → Around c' e' a' m' z' → Forall₂ SameLine a a' → Forall₂ SameLine z z'
    → ButOne (entries_in a) (results (model_of (c ∷ (a ++ ((e ∷ m) ++ z))))) (results (model_of (c' ∷ (a' ++ ((e' ∷ m') ++ z')))))
unfolding entries_in
all_but_one h k ahead behind = but_one (divided h) (divided k) (moved 1 1 ahead) (moved _ _ behind)
