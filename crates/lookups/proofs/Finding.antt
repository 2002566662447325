-- A search by name among loaded lines. Assumes nothing.
use mathlib.Core.Path.{◌≡◌, refl, sym, ◌∙◌}
use mathlib.Core.List.{List, [], ◌∷◌, map}
use mathlib.Core.Bool.{Bool, true, false, cond, ◌&&◌, and-eq-true_iff}
use Prim.Native.Nat.{ℕ, suc, ◌<◌}
use native.Mathlib.Omega.{arith}
use lib.Dec.{eqb}
use borrow.Author.Tests.{eqb-true}
use Rattle.std.specs.List.{list_any}
use Rattle.std.specs.Option.{option_or}
use Rattle.std.specs.Prelude.{Option, Some, None, is_some}
use Rattle.text.specs.Text.{same}
use Rattle.grammar.specs.Grammar as grammar
use Rattle.grammar.specs.Kinds as kinds
use Rattle.sheet.specs.Scratch.{kind_at, name_at, line_count, param_count}
use Rattle.sheet.proofs.RecordLines.{record_lines}
use Rattle.sheet.specs.Records.{Steps}
use Rattle.sheet.specs.declared.records.Records.{Records}
use Rattle.sheet.specs.Tree.{Node}
use Rattle.rules.specs.Text.{Name, among, last_named}
use Rattle.rules.specs.Arithmetic.{any}
use Rattle.rules.specs.Ast.{type_name}
use Rattle.rules.specs.Standing.{node_name, node_at, nodes_at, param_at, entry_at, Loaded, Here}
use Rattle.rules.proofs.Lookups.{or_none, last_turn}
use Rattle.rules.proofs.Records.{entry_at_lem, param_at_lem}
use Rattle.rules.proofs.Rows.{records, params, any_row, IterWalk, iter_here, iter_onward, iter_over}
use Rattle.rules.proofs.Standing.{stands}
use Rattle.lookups.specs.Found.{node_kind, of_kind, found_node, Stretch, FoundKind, Last}
use Rattle.lookups.specs.Lines.{KindAt}
use Rattle.lookups.proofs.Types.{type_name_lem}

-- ------------------------------------------------------------ the last of a name

-- a name is among those of a list where a search finds one of the list
pub among_last : {A : Type 0} (f : A → Name) (x : Name) (as' : List A) → among x (map f as') ≡ is_some (last_named f x as')
unfolding among last_named
among_last f x [] = refl
among_last {A} f x (a ∷ as') = by_cases (last_named f x as') (same x (f a)) (among_last f x as')
  where
    by_cases : (o : Option A) (b : Bool) → among x (map f as') ≡ is_some o
        → ◌≡◌ {A = Bool} (elim b as (λ _. Bool) [ true ↦ true | false ↦ among x (map f as') ])
        (is_some {T = A} (elim o as (λ _. Option A) [ Some y ↦ Some y | None ↦ elim b as (λ _. Option A) [ true ↦ Some a | false ↦ None ] ]))
    by_cases (Some y) true h = refl
    by_cases None true h = refl
    by_cases (Some y) false h = h
    by_cases None false h = h

-- ------------------------------------------------------------ line by line

-- ... among those of a kind
kind_turn : (k : ℕ) (x : Name) (t : Node) (ts : List Node) (o : Option Node)
    → option_or (last_named node_name x (of_kind k (t ∷ ts))) o
    ≡ option_or (last_named node_name x (of_kind k ts)) (cond (eqb (node_kind t) k) (cond (same x (node_name t)) (Some t) o) o)
unfolding of_kind
kind_turn k x t ts o = by_cases (eqb (node_kind t) k)
  where
    by_cases : (b : Bool)
        → option_or (last_named node_name x (elim b as (λ _. List Node) [ true ↦ t ∷ of_kind k ts | false ↦ of_kind k ts ])) o
        ≡ option_or (last_named node_name x (of_kind k ts)) (cond b (cond (same x (node_name t)) (Some t) o) o)
    by_cases true = last_turn node_name x t (of_kind k ts) o
    by_cases false = refl

-- line i where it is a record of kind k with the name x, else what was found before
unfoldable newest : List ℕ → List ℕ → ℕ → Name → ℕ → Option ℕ → Option ℕ
newest s S k x i f = cond (eqb (kind_at S i) k) (cond (same x (name_at s S i)) (Some i) f) f

newest_node : (s S : List ℕ) (k : ℕ) (x : Name) (i : ℕ) (f : Option ℕ)
    → found_node s (newest s S k x i f) ≡ cond (eqb (kind_at S i) k) (cond (same x (name_at s S i)) (Some (node_at s i)) (found_node s f)) (found_node s f)
unfolding newest found_node
newest_node s S k x i f = by_cases (eqb (kind_at S i) k) (same x (name_at s S i))
  where
    by_cases : (b c : Bool) → found_node s (cond b (cond c (Some i) f) f) ≡ cond b (cond c (Some (node_at s i)) (found_node s f)) (found_node s f)
    by_cases true true = refl
    by_cases true false = refl
    by_cases false c = refl

newest_kind : (s S : List ℕ) (k : ℕ) (x : Name) (i : ℕ) (f : Option ℕ) → i < line_count S → FoundKind S k f → FoundKind S k (newest s S k x i f)
unfolding newest
newest_kind s S k x i f h o = by_cases (eqb (kind_at S i) k) refl (same x (name_at s S i))
  where
    by_cases : (b : Bool) → eqb (kind_at S i) k ≡ b → (c : Bool) → FoundKind S k (cond b (cond c (Some i) f) f)
    by_cases true e true = (h, eqb-true (kind_at S i) k e)
    by_cases true e false = o
    by_cases false e c = o

-- what is found so far, before the records that r gives
pub record Going (s S : List ℕ) (k : ℕ) (x : Name) (m i : ℕ) (r : Records) (f : Option ℕ) : Type 0 where
  pub sort : grammar.Sort
  pub walk : IterWalk sort nodes_at (λ ts. last_named node_name x (of_kind k (nodes_at s m i)) ≡ option_or (last_named node_name x (of_kind k ts)) (found_node s f)) s S r
  pub kind : FoundKind S k f

pub start : (s S : List ℕ) (k : ℕ) (x : Name) (m i : ℕ) (r : Records) → Loaded s S → Stretch S m i → r.lines.now ≡ S → r.left ≡ m → r.at ≡ i → Going s S k x m i r None
unfolding found_node
start s S k x m i r d h l e a =
    record { sort = h.sort; walk = record { lines = l; walk = rw (e, a) (record { loaded = d; row = h.row; known = sym (or_none _) }) }; kind = tt }

module _ (s S : List ℕ) (k : ℕ) (x : Name) (m i : ℕ) (r : Records) (f : Option ℕ) (g : Going s S k x m i r f) where
  -- what `is_named` tells of the line
  module _ (t : Records) (at : ℕ) (h : Steps r at t) (b : Bool) (e : b ≡ (eqb (kind_at S at) k && same x (name_at s S at))) where
    turn : (f' : Option ℕ) → f' ≡ newest s S k x at f → Going s S k x m i t f'
    unfolding node_name node_kind
    turn f' q =
        let w = (iter_here h g.walk).within in
        let y = stands g.walk.walk.loaded at w in
        rw q
        (record {
          sort = g.sort;
          walk =
              iter_onward h records g.walk
              (λ ts z. z ∙ rw (kind_turn k x (node_at s at) ts (found_node s f), newest_node s S k x at f, y.says.kind, y.spells.name, y.here) refl);
          kind = newest_kind s S k x at f w g.kind;
        })

    pub turn_hit : b ≡ true → Going s S k x m i t (Some at)
    unfolding newest
    turn_hit q =
        let y = (and-eq-true_iff (eqb (kind_at S at) k) (same x (name_at s S at))).0 (sym e ∙ q) in
        turn (Some at) (rw (y.0, y.1) refl)

    pub turn_miss : b ≡ false → Going s S k x m i t f
    unfolding newest
    turn_miss q = turn f (by_cases (eqb (kind_at S at) k) (same x (name_at s S at)) (sym e ∙ q))
      where
        by_cases : (c d : Bool) → (c && d) ≡ false → f ≡ cond c (cond d (Some at) f) f
        by_cases true true z = absurd (let w : ◌≡◌ {A = ℕ} 0 1 = cc z in omega arith)
        by_cases true false z = refl
        by_cases false d z = refl

  pub over : (o : Option ℕ) → o ≡ f → r.left ≡ 0 → Last s S k x m i o
  unfolding of_kind last_named
  over o q h = rw q (record { found = sym (iter_over records g.walk h); kind = g.kind })

-- ------------------------------------------------------------ an entry's parameter

-- a parameter of the name x and of a type of the name ty, by its lines
pub any_param : {s S : List ℕ} {e : ℕ} → Loaded s S → KindAt kinds.entry S e → (x ty : Name)
    → list_any (λ j. same (name_at s S (suc j)) ty && same x (name_at s S j)) (record_lines S (param_count S e) (suc e)) ≡ any (λ p. same (type_name p.ty) ty && same x p.name) (entry_at s e).params
any_param {s} {S} {e} d h x ty =
    let q = entry_at_lem d h.within h.kind in
    any_row params d _ (λ p. same (type_name p.ty) ty && same x p.name) by_line (param_count S e) q.params ∙ rw q.is refl
  where
    by_line : (j : ℕ) → Here S grammar.Param j → (same (name_at s S (suc j)) ty && same x (name_at s S j)) ≡ (same (type_name (param_at s j).ty) ty && same x (param_at s j).name)
    by_line j y = let p = param_at_lem d y.within (omega (arith, y.kind.0, y.kind.1)) in rw (p.0, ← type_name_lem s S (suc j) d) refl
