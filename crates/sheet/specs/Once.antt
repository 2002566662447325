-- That a sheet is loaded has one proof at most. Assumes nothing.
use Rattle.std.specs.Prelude.{ℕ, suc, List, [], ◌∷◌, ◌++◌, ◌≡◌, length, drop}
use mathlib.Core.Path.{refl, sym, ap, ◌∙◌}
use lib.Seq.{drop_at}
use Rattle.std.specs.Coded.{×_prop, Π_prop, →_prop, Unit-prop, le_prop, Coded, Coded-set, coded_ℕ, coded_list, coded×, code_by}
use Rattle.grammar.specs.Grammar.{Sort, Contract, Item, Field, Param, Ty, Arg, Clause, Stmt, Expr, Rule, span, name, text, assign_op, un_op, bin_op, count, flag, record_of}
use Rattle.grammar.specs.Table.{sort_number, sort_of}
use Rattle.sheet.specs.Line.{Line}
use Rattle.sheet.specs.Load.{sorts}
use Rattle.sheet.specs.Tree.{Node, node, Nodes, nil, more, trees}
use Rattle.sheet.specs.Scratch.{end_at, line_count}
use Rattle.sheet.specs.Held.{Says, Spells, Flagged, Parted}
use Rattle.sheet.specs.Loaded.{lines_in, LineHeld, TreeHeld, TreesHeld, IsLoaded}

number_once : {a b : ℕ} → IsProp (a ≡ b)
number_once {a} {b} = Coded-set coded_ℕ a b

pub sort-number : (σ : Sort) → sort_of (sort_number σ) ≡ σ
sort-number Contract = refl
sort-number Item = refl
sort-number Field = refl
sort-number Param = refl
sort-number Ty = refl
sort-number Arg = refl
sort-number Clause = refl
sort-number Stmt = refl
sort-number Expr = refl

abbrev coded_sort : Coded Sort
coded_sort = code_by ℕ coded_ℕ sort_number sort_of sort-number

says_once : {S : List ℕ} {i : ℕ} {l : Line} → IsProp (Says S i l)
says_once x y =
    rw (
      number_once x.kind y.kind,
      number_once x.op y.op,
      number_once x.at y.at,
      number_once x.start y.start,
      number_once x.len y.len,
      number_once x.first y.first,
      number_once x.second y.second,
      number_once x.third y.third,
    )
    refl

spells_once : {s S : List ℕ} {i : ℕ} {l : Line} → IsProp (Spells s S i l)
spells_once {l = l} x y =
    rw (
      Coded-set (coded_list coded_ℕ) _ _ x.name y.name,
      Π_prop (λ rs. →_prop number_once) x.span y.span,
      →_prop number_once x.nspan y.nspan,
      →_prop number_once x.bare y.bare,
    )
    refl

flagged_once : (rs : List Rule) (gs : List (ℕ × Sort)) → IsProp (Flagged rs gs)
flagged_once [] gs = Unit-prop
flagged_once (span ∷ rs) gs = flagged_once rs gs
flagged_once (name ∷ rs) gs = flagged_once rs gs
flagged_once (text ∷ rs) gs = flagged_once rs gs
flagged_once (assign_op ∷ rs) gs = flagged_once rs gs
flagged_once (un_op ∷ rs) gs = flagged_once rs gs
flagged_once (bin_op ∷ rs) gs = flagged_once rs gs
flagged_once (count s ∷ rs) [] = Unit-prop
flagged_once (count s ∷ rs) (g ∷ gs) = flagged_once rs gs
flagged_once (flag s ∷ rs) [] = Unit-prop
flagged_once (flag s ∷ rs) (g ∷ gs) = ×_prop le_prop (flagged_once rs gs)

-- the parts that the fields tell, behind those that the record always has
abbrev Told : (ps ds : List (ℕ × Sort)) → List Rule → Type 0
Told ps ds rs = (gs : List (ℕ × Sort)) × (ps ≡ ds ++ gs) × Flagged rs gs

told_once : (ps ds : List (ℕ × Sort)) (rs : List Rule) → IsProp (Told ps ds rs)
told_once ps ds rs x y = same x.0 y.0 (sym (drop_at ds x.0 _ refl) ∙ ap (drop (length ds)) (sym x.1 ∙ y.1) ∙ drop_at ds y.0 _ refl) x.1 x.2 y.1 y.2
  where
    same : (gs hs : List (ℕ × Sort)) → gs ≡ hs → (e : ps ≡ ds ++ gs) (f : Flagged rs gs) (g : ps ≡ ds ++ hs) (h : Flagged rs hs)
        → ◌≡◌ {A = Told ps ds rs} (gs, e, f) (hs, g, h)
    same gs hs q = rw q (λ e f g h. rw (Coded-set (coded_list (coded× coded_ℕ coded_sort)) _ _ e g, flagged_once rs hs f h) refl)

parted_once : {l : Line} → IsProp (Parted l)
parted_once {l} x y =
    rw (
      Coded-set (coded_list coded_sort) _ _ x.sorts y.sorts,
      told_once l.parts (record_of l.kind).always (record_of l.kind).rules x.always y.always,
    )
    refl

line_once : {s S : List ℕ} {n i j : ℕ} {σ : Sort} {l : Line} → IsProp (LineHeld s S n σ i j l)
line_once x y =
    rw (
      number_once x.at y.at,
      le_prop x.within y.within,
      ×_prop le_prop le_prop x.among y.among,
      parted_once x.parted y.parted,
      says_once x.says y.says,
      spells_once x.spells y.spells,
    )
    refl

mutual
  unfolding TreeHeld TreesHeld

  tree_once : (s S : List ℕ) (n : ℕ) (σ : Sort) (i : ℕ) (t : Node) → IsProp (TreeHeld s S n σ i t)
  tree_once s S n σ i (node j l ps) = ×_prop line_once (trees_once s S n (sorts l.parts) (suc i) (end_at S i) ps)

  trees_once : (s S : List ℕ) (n : ℕ) (ss : List Sort) (i k : ℕ) (ns : Nodes) → IsProp (TreesHeld s S n ss i k ns)
  trees_once s S n [] i k nil = number_once
  trees_once s S n [] i k (more t ns) = λ x. absurd x
  trees_once s S n (σ ∷ ss) i k nil = λ x. absurd x
  trees_once s S n (σ ∷ ss) i k (more t ns) = ×_prop (tree_once s S n σ i t) (trees_once s S n ss (end_at S i) k ns)

pub IsLoaded-prop : (s S : List ℕ) → IsProp (IsLoaded s S)
unfolding IsLoaded
IsLoaded-prop s S = trees_once s S (line_count S) (Contract ∷ []) 0 (line_count S) (trees 0 (lines_in s))
