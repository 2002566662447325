-- A step at each of the records of a row: what a loop asks that calls it. Assumes nothing.
use mathlib.Core.Path.{◌≡◌, refl, sym, ◌∙◌}
use mathlib.Core.List.{List, [], ◌∷◌}
use Prim.Native.Nat.{ℕ, suc, ◌+◌, ◌<◌}
use native.Mathlib.Omega.{arith}
use lib.ListN.{length}
use denote.Ref.{MutBor}
use Rattle.std.specs.Prelude.{Result, Ok, Err}
use Rattle.grammar.specs.Grammar as grammar
use Rattle.sheet.specs.Scratch.{end_at, skip}
use Rattle.sheet.specs.Tree.{Node}
use Rattle.sheet.specs.Records.{Steps}
use Rattle.sheet.specs.declared.records.Records.{Records}
use Rattle.rules.specs.Asking.{Rule, Res, ok, for_each}
use Rattle.rules.specs.Asking as asking
use Rattle.rules.specs.Kept.{Kept, Table, kept}
use Rattle.rules.specs.Standing.{Loaded, Here, Row, next}
use Rattle.rules.proofs.Rows.{Listed}
use Rattle.rules.proofs.Binding.{then_ok, then_refused}
use Rattle.rules.proofs.Records.{no_nodes}
use Rattle.rules.proofs.Standing.{skip_next, nodes_next}
use Rattle.refusals.specs.Refusal.{done_of}
use Rattle.refusals.specs.declared.refusal.Refusal.{Refusal}
use Rattle.typing.specs.Asks.{Does}
use Rattle.typing.proofs.Doing.{does_then, does_cut, does_nothing}
use Rattle.typing.specs.Each.{Step, Post, TakesEach, Gives, GivesEach, over, refused, onward, Doing, and_next, kept_each, DoesRow}

-- The iterator r gives what is left of m records, the first of which stands at line i; the table was T₀ before and is T now.
pub record EachLeft (P : Step) (S : List ℕ) (m i : ℕ) (T₀ : Table) (r : Records) (T : Table) : Type 0 where
  pub lines : r.lines.now ≡ S
  pub behind : ℕ
  pub here : r.at ≡ skip S behind i
  pub left : behind + r.left ≡ m
  pub whole : (d : Result Unit Refusal) (U : Table) → GivesEach P S r.left r.at T d U → GivesEach P S m i T₀ d U

pub each_start : (P : Step) (S : List ℕ) (m i : ℕ) (T : Table) (r : Records) → r.lines.now ≡ S → r.left ≡ m → r.at ≡ i → EachLeft P S m i T r T
unfolding skip
each_start P S m i T r l e a = record { lines = l; behind = 0; here = a; left = omega (arith, e); whole = λ d U g. rw (e, a) at g }

module _ {P : Step} {S : List ℕ} {m i : ℕ} {T₀ : Table} {r : Records} {T : Table} (w : EachLeft P S m i T₀ r T) where
  pub each_over : r.left ≡ 0 → GivesEach P S m i T₀ (Ok tt) T
  each_over e = w.whole (Ok tt) T (rw e over)

  module _ {t : Records} {j : ℕ} (h : Steps r j t) where
    is : (d : Result Unit Refusal) (U : Table) → GivesEach P S (suc t.left) j T d U → GivesEach P S m i T₀ d U
    is d U g = w.whole d U (rw (h.left, ← h.here) g)

    pub each_refused : (d : Result Unit Refusal) (U : Table) (x : Refusal) → P j T d U → d ≡ Err x → GivesEach P S m i T₀ (Err x) U
    each_refused d U x p e = is (Err x) U (refused (rw e at p))

    pub each_onward : (d : Result Unit Refusal) (U : Table) → P j T d U → d ≡ Ok tt → EachLeft P S m i T₀ t U
    each_onward d U p e =
        let n : t.at ≡ end_at S j = h.behind ∙ rw (w.lines, ← h.here) refl in
        record {
          lines = h.lines ∙ w.lines;
          behind = suc w.behind;
          here = h.behind ∙ rw (w.lines, w.here) (sym (skip_next S w.behind i));
          left = omega (arith, w.left, h.left);
          whole = λ f V g. is f V (onward (rw e at p) (rw n at g));
        }

    -- the record at the line is one of the row
    pub each_here : (j ≡ skip S w.behind i) × (w.behind < m)
    each_here = (h.here ∙ w.here, omega (arith, w.left, h.left))

    pub each_takes : (pre : MutBor Table → ℕ → Type 0) → TakesEach pre S T₀ m i → (shown : MutBor Table) → length shown.now ≡ length T₀ → pre shown j
    each_takes pre f shown l = rw each_here.0 (f shown w.behind l each_here.1)

-- what such a step is to be used for: its rule at the line, on the table that it is given
abbrev pub DoesEach : (post : Post) → List ℕ → (Table → ℕ → Rule Unit) → Type 0
DoesEach post s rule = (shown : MutBor Table) (j : ℕ) (r : Result Unit Refusal) (left : MutBor Table) → post shown j r left → Does s (rule shown.now j) shown.now r left.now

pub does_at : {post : Post} {s : List ℕ} (rule : Table → ℕ → Rule Unit) → DoesEach post s rule → (j : ℕ) (T : Table) (r : Result Unit Refusal) (U : Table) → Gives post j T r U → Does s (rule T j) T r U
does_at rule f j T r U p = rw (← p.shows, ← p.leaves) (f p.shown j r p.left p.met)

module _ {A : Type 0} {one : List ℕ → ℕ → A} {all : List ℕ → ℕ → ℕ → List A} (l : Listed one all) (rule : A → Rule Unit) {s S : List ℕ} (d : Loaded s S) {σ : grammar.Sort} {P : Step} where
  -- a step that does what the rule says of each record, and keeps what K tells of the line and the table, does what the rule says of all of them
  module _ (K : ℕ → Table → Type 0)
      (each : (j : ℕ) (T : Table) (r : Result Unit Refusal) (U : Table) → Here S σ j → K j T → P j T r U → Does s (rule (one s j)) T r U × (r ≡ Ok tt → K (end_at S j) U)) where
    pub each_keeps : {m i : ℕ} {T : Table} {r : Result Unit Refusal} {U : Table} → Row S σ m i → K i T → GivesEach P S m i T r U → Does s (for_each (all s m i) rule) T r U
    unfolding for_each
    each_keeps {i = i} {T} w k over = rw (l.empty s i) (does_nothing s T)
    each_keeps {m = suc m} {i} {T} {U = U} (next h w) k (refused {x = x} p) = rw (l.first d m h.within) (does_cut s _ _ T _ U (each i T _ U h k p).0 x refl)
    each_keeps {m = suc m} {i} {T} {r} {U} (next h w) k (onward {U = V} p g) =
        let e = each i T (Ok tt) V h k p in
        rw (l.first d m h.within) (does_then s _ _ T _ V e.0 refl r U (each_keeps w (e.1 refl) g))

  -- ... where nothing need be kept
  module _ (each : (j : ℕ) (T : Table) (r : Result Unit Refusal) (U : Table) → P j T r U → Does s (rule (one s j)) T r U) where
    pub each_does : {m i : ℕ} {T : Table} {r : Result Unit Refusal} {U : Table} → Row S σ m i → GivesEach P S m i T r U → Does s (for_each (all s m i) rule) T r U
    each_does w g = each_keeps (λ _ _. Unit) (λ j T r U h k p. (each j T r U p, λ _. tt)) w tt g

-- `kept` of a rule at each record is what `kept` of it does at each
pub kept-each : (rule : Node → Rule Unit) (ns : List Node) (T : Table) → kept (for_each ns rule) T ≡ kept_each (λ n. kept (rule n)) ns T
unfolding for_each kept_each and_next kept
kept-each rule [] T = refl
kept-each rule (n ∷ ns) T = by_cases (kept (rule n) T).res (kept (rule n) T).table refl (kept-each rule ns)
  where
    by_cases : (o : Res Unit) (U : Table) → kept (rule n) T ≡ record { res = o; table = U } → ((V : Table) → kept (for_each ns rule) V ≡ kept_each (λ k. kept (rule k)) ns V)
        → kept (for_each (n ∷ ns) rule) T ≡ and_next o U (kept_each (λ k. kept (rule k)) ns)
    by_cases (ok t) U e rest = then_ok (rule n) (λ _. for_each ns rule) T U t _ e (rest U)
    by_cases (asking.refused x) U e rest = then_refused (rule n) (λ _. for_each ns rule) T U x e

-- what the answers of a step come to, for all that it does
pub each_row : {s S : List ℕ} → Loaded s S → {P : Step} {m i : ℕ} {T : Table} {r : Result Unit Refusal} {U : Table} → GivesEach P S m i T r U → DoesRow P s S m i T r U
unfolding kept_each and_next done_of
each_row {s} d {i = i} over σ f w each = rw (no_nodes s i) refl
each_row d {m = suc m} {i} {T} {U = U} (refused {x = x} p) σ f (next h w) each = rw (nodes_next d m i h.within, each i T (Err x) U h p) refl
each_row d {m = suc m} {i} {T} (onward {U = V} p g) σ f (next h w) each = rw (nodes_next d m i h.within, each i T (Ok tt) V h p) (each_row d g σ f w each)
