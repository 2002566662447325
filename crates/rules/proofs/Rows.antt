-- Records one behind another: the first of those that are left, and what is known of all of them. Assumes nothing.
use mathlib.Core.Path.{◌≡◌, refl, ap, ◌∙◌}
use mathlib.Core.List.{List, [], ◌∷◌}
use mathlib.Core.Bool.{Bool, true, false, ◌&&◌, ◌||◌}
use Prim.Native.Nat.{ℕ, zero, suc, ◌-◌, ◌<◌, ◌≤◌}
use native.Mathlib.Omega.{arith}
use lib.ListN.{length, get_or}
use Rattle.std.specs.List.{list_any}
use Rattle.std.specs.Iterator.{CallableAtEachTurn}
use Rattle.std.proofs.lemmas.Iterator.Adapters.{serves_from_places}
use Rattle.text.specs.Text.{same}
use Rattle.grammar.specs.Grammar as grammar
use Rattle.sheet.specs.Scratch.{end_at, line_count}
use Rattle.sheet.specs.Records.{Steps, NextOf}
use Rattle.sheet.proofs.RecordLines.{record_lines, gives_lines}
use Rattle.sheet.specs.declared.records.Records.{Records}
use Rattle.sheet.specs.Tree.{take_nodes}
use Rattle.rules.specs.Text.{Name, among}
use Rattle.rules.specs.Ast.{Expr, list, exprs_of}
use Rattle.rules.specs.Arithmetic.{any}
use Rattle.rules.specs.Standing.{node_at, nodes_at, expr_at, exprs_at, param_at, params_at, stmt_at, stmts_at, clause_at, clauses_at, Loaded, Here, Row}
use Rattle.rules.proofs.Lookups.{among_first}
use Rattle.rules.proofs.Records.{no_nodes, stmts_next, no_stmts, clauses_next, no_clauses, params_next, no_params}
use Rattle.rules.proofs.Standing.{nodes_next, exprs_next, row_first, row_rest}

-- ------------------------------------------------------------ the first record

pub row_some : {S : List ℕ} {σ : grammar.Sort} {m i : ℕ} → 0 < m → Row S σ m i → Row S σ (suc (m - 1)) i
row_some {m = m} h r = rw (let e : suc (m - 1) ≡ m = omega arith in e) r

-- what stands at lines one behind another is what stands at each of them
pub record Listed {A : Type 0} (one : List ℕ → ℕ → A) (all : List ℕ → ℕ → ℕ → List A) : Type 0 where
  pub empty : (s : List ℕ) (i : ℕ) → all s 0 i ≡ []
  pub first : {s S : List ℕ} → Loaded s S → (m : ℕ) {i : ℕ} → i < line_count S → all s (suc m) i ≡ one s i ∷ all s m (end_at S i)

pub records : Listed node_at nodes_at
records = record { empty = no_nodes; first = λ d m {i} w. nodes_next d m i w }

pub stmts : Listed stmt_at stmts_at
stmts = record { empty = no_stmts; first = stmts_next }

pub clauses : Listed clause_at clauses_at
clauses = record { empty = no_clauses; first = clauses_next }

pub params : Listed param_at params_at
params = record { empty = no_params; first = params_next }

abbrev pub exprs_in : List ℕ → ℕ → ℕ → List Expr
exprs_in s m i = list (exprs_at s m i)

pub exprs : Listed expr_at exprs_in
unfolding list exprs_at take_nodes exprs_of
exprs = record { empty = λ s i. refl; first = λ d m {i} w. ap list (exprs_next d m i w) }

module _ {A : Type 0} {one : List ℕ → ℕ → A} {all : List ℕ → ℕ → ℕ → List A} (l : Listed one all) where
  pub list_none : (s : List ℕ) (m i : ℕ) → m ≤ 0 → all s m i ≡ []
  list_none s m i h = ap (λ k. all s k i) (let e : m ≡ 0 = omega arith in e) ∙ l.empty s i

  pub list_some : {s S : List ℕ} {σ : grammar.Sort} {m i : ℕ} → Loaded s S → 0 < m → Row S σ m i → all s m i ≡ one s i ∷ all s (m - 1) (end_at S i)
  list_some {s} {m = m} {i} d h r =
      ap (λ k. all s k i) (let e : m ≡ suc (m - 1) = omega arith in e) ∙ l.first d (m - 1) (row_first (row_some h r)).within

-- ------------------------------------------------------------ a loop over a row

-- P of the records that are left, the first at line at
pub record RowWalk {A : Type 0} (σ : grammar.Sort) (all : List ℕ → ℕ → ℕ → List A) (P : List A → Type 0) (s S : List ℕ) (left at : ℕ) : Type 0 where
  pub loaded : Loaded s S
  pub row : Row S σ left at
  pub known : P (all s left at)

pub row_here : {A : Type 0} {σ : grammar.Sort} {all : List ℕ → ℕ → ℕ → List A} {P : List A → Type 0} {s S : List ℕ} {left at : ℕ} → RowWalk σ all P s S left at → 0 < left → Here S σ at
row_here w h = row_first (row_some h w.row)

module _ {A : Type 0} {σ : grammar.Sort} {one : List ℕ → ℕ → A} {all : List ℕ → ℕ → ℕ → List A} (l : Listed one all) {P : List A → Type 0} {s S : List ℕ} {left at : ℕ} (w : RowWalk σ all P s S left at) where
  pub row_over : left ≤ 0 → P []
  row_over h = rw (list_none l s left at h) at w.known

  module _ (h : 0 < left) where
    known : P (one s at ∷ all s (left - 1) (end_at S at))
    known = rw (list_some l w.loaded h w.row) at w.known

    -- what the record at the line tells, whatever is behind it
    pub row_found : {B : Type 0} → ((as' : List A) → P (one s at ∷ as') → B) → B
    row_found f = f _ known

    pub row_onward : {Q : List A → Type 0} (at' : ℕ) → at' ≡ end_at S at → ((as' : List A) → P (one s at ∷ as') → Q as') → RowWalk σ all Q s S (left - 1) at'
    row_onward at' q f = rw q (record { loaded = w.loaded; row = row_rest (row_some h w.row); known = f _ known })

-- The same of the records that the iterator r gives.
pub record IterWalk {A : Type 0} (σ : grammar.Sort) (all : List ℕ → ℕ → ℕ → List A) (P : List A → Type 0) (s S : List ℕ) (r : Records) : Type 0 where
  pub lines : r.lines.now ≡ S
  pub walk : RowWalk σ all P s S r.left r.at

pub iter_start : {A : Type 0} (σ : grammar.Sort) (all : List ℕ → ℕ → ℕ → List A) (P : List A → Type 0) (s S : List ℕ) (left at : ℕ) (r : Records)
    → RowWalk σ all P s S left at → r.lines.now ≡ S → r.left ≡ left → r.at ≡ at → IterWalk σ all P s S r
iter_start σ all P s S left at r w e p q = record { lines = e; walk = rw (p, q) w }

pub iter_over : {A : Type 0} {σ : grammar.Sort} {one : List ℕ → ℕ → A} {all : List ℕ → ℕ → ℕ → List A} (l : Listed one all) {P : List A → Type 0} {s S : List ℕ} {r : Records} → IterWalk σ all P s S r → r.left ≡ 0 → P []
iter_over l w h = row_over l w.walk (omega (arith, h))

module _ {A : Type 0} {σ : grammar.Sort} {all : List ℕ → ℕ → ℕ → List A} {s S : List ℕ} {r t : Records} {i : ℕ} (h : Steps r i t) where
  pub iter_here : {P : List A → Type 0} → IterWalk σ all P s S r → Here S σ i
  iter_here w = rw h.here (row_here w.walk (omega (arith, h.left)))

  module _ {one : List ℕ → ℕ → A} (l : Listed one all) {P : List A → Type 0} (w : IterWalk σ all P s S r) where
    pub iter_found : {B : Type 0} → ((as' : List A) → P (one s i ∷ as') → B) → B
    iter_found f = row_found l w.walk (omega (arith, h.left)) (rw h.here at f)

    pub iter_onward : {Q : List A → Type 0} → ((as' : List A) → P (one s i ∷ as') → Q as') → IterWalk σ all Q s S t
    iter_onward f =
        let n : r.left - 1 ≡ t.left = omega (arith, h.left) in
        record {
          lines = h.lines ∙ w.lines;
          walk = rw n at (row_onward l w.walk (omega (arith, h.left)) t.at (rw w.lines at h.behind) (rw h.here at f));
        }

-- ------------------------------------------------------------ the library's methods over a row

-- P of the records of a row and their lines, from the last one on
pub by_row : {A : Type 0} {σ : grammar.Sort} {one : List ℕ → ℕ → A} {all : List ℕ → ℕ → ℕ → List A} (l : Listed one all) {s S : List ℕ} (d : Loaded s S) (P : List A → List ℕ → Type 0) → P [] []
    → ((i : ℕ) → Here S σ i → (as' : List A) (is : List ℕ) → P as' is → P (one s i ∷ as') (i ∷ is)) → (n : ℕ) {i : ℕ} → Row S σ n i → P (all s n i) (record_lines S n i)
unfolding record_lines
by_row l {s} d P z f zero {i} r = rw (l.empty s i) z
by_row l d P z f (suc n) {i} r = let h = row_first r in rw (l.first d n h.within) (f i h _ _ (by_row l d P z f n (row_rest r)))

-- `any`, where t tells of a line whether p of the record there
pub any_row : {A : Type 0} {σ : grammar.Sort} {one : List ℕ → ℕ → A} {all : List ℕ → ℕ → ℕ → List A} (l : Listed one all) {s S : List ℕ} (d : Loaded s S) (t : ℕ → Bool) (p : A → Bool)
    → ((i : ℕ) → Here S σ i → t i ≡ p (one s i)) → (n : ℕ) {i : ℕ} → Row S σ n i → list_any t (record_lines S n i) ≡ any p (all s n i)
unfolding any
any_row l d t p e n r = by_row l d (λ as' is. list_any t is ≡ any p as') refl (λ i h as' is z. rw (e i h, z) refl) n r

line_here : {S : List ℕ} {σ : grammar.Sort} (n : ℕ) {i : ℕ} → Row S σ n i → (k x : ℕ) → k < length (record_lines S n i) → x ≡ get_or (record_lines S n i) k x → Here S σ x
unfolding record_lines
line_here zero r k x h e = absurd (omega arith)
line_here (suc n) r zero x h e = rw e (row_first r)
line_here (suc n) r (suc k) x h e = line_here n (row_rest r) k x (omega arith) e

-- a closure that each call leaves as it was may be called at each record of a row, where it may at any record of the sort
pub serves_row : {S : List ℕ} {σ : grammar.Sort} {n i : ℕ} {r : Records} → Row S σ n i → r.lines.now ≡ S → r.left ≡ n → r.at ≡ i → {F : Type 0} {R : F → ℕ → F → Type 0} {Q : F → ℕ → Type 0} {f : F}
    → ((x : ℕ) (q : F) → R f x q → q ≡ f) → ((x : ℕ) → Here S σ x → Q f x) → CallableAtEachTurn NextOf R Q r f
serves_row {n = n} w e p q stays h = serves_from_places (gives_lines e p q) stays (λ x k l z. h x (line_here n w k x l z))

-- the names that g takes of a list, where t is true
pub among_any : {A : Type 0} (t : A → Bool) (name : A → Name) (g : List A → List Name) → g [] ≡ []
    → ((a : A) (as' : List A) → g (a ∷ as') ≡ elim (t a) as (λ _. List Name) [ true ↦ name a ∷ g as' | false ↦ g as' ])
    → (x : Name) (as' : List A) → among x (g as') ≡ any (λ a. t a && same x (name a)) as'
unfolding among any
among_any t name g n m x [] = rw n refl
among_any t name g n m x (a ∷ as') = ap (among x) (m a as') ∙ by (t a) ∙ rw (among_any t name g n m x as') refl
  where
    by : (b : Bool) → among x (elim b as (λ _. List Name) [ true ↦ name a ∷ g as' | false ↦ g as' ]) ≡ ((b && same x (name a)) || among x (g as'))
    by true = among_first x (name a) (g as') true
    by false = refl
