-- What the grammar tells of a line's parts, by its kind. Assumes nothing.
use mathlib.Core.Path.{◌≡◌, refl}
use mathlib.Core.List.{List, [], ◌∷◌, ◌++◌}
use Prim.Native.Nat.{ℕ, zero, suc, ◌+◌, ◌-◌, ◌<◌, ◌≤◌}
use native.Mathlib.Omega.{arith}
use Rattle.grammar.specs.Grammar.{Sort, record_of}
use Rattle.sheet.specs.Line.{Line}
use Rattle.grammar.specs.Table.{sorts_in, told_sorts, group_sorts}
use Rattle.sheet.specs.Held.{Parted, Flagged}

infixr 5 ◌also◌
-- P of each of the n numbers from i on
pub data Each (P : ℕ → Type 0) : ℕ → ℕ → Type 0 where
  stop : {i : ℕ} → Each P i zero
  ◌also◌ : {i n : ℕ} → P i → Each P (suc i) n → Each P i (suc n)

pub pick : {P : ℕ → Type 0} {i n : ℕ} (k : ℕ) → Each P i n → i ≤ k → k < i + n → P k
pick k stop a b = absurd (omega arith)
pick {P} {i} k (h also hs) a b = by_cases (k - i) refl (λ c. pick k hs c (omega arith))
  where
    by_cases : (d : ℕ) → k - i ≡ d → (i < k → P k) → P k
    by_cases zero e f = rw (let q : k ≡ i = omega arith in q) h
    by_cases (suc d) e f = f (omega arith)

-- P of groups of parts of these sorts, how many of each
abbrev pub Groups : List Sort → (List (ℕ × Sort) → Type 0) → Type 0
Groups [] P = P []
Groups (s ∷ ss) P = (n : ℕ) × Groups ss (λ gs. P ((n, s) ∷ gs))

groups : (gs : List (ℕ × Sort)) (P : List (ℕ × Sort) → Type 0) → P gs → Groups (sorts_in gs) P
groups [] P h = h
groups (g ∷ gs) P h = (g.0, groups gs (λ xs. P ((g.0, g.1) ∷ xs)) h)

told_sorts_lem : (as' gs : List (ℕ × Sort)) (ss : List Sort) → sorts_in (as' ++ gs) ≡ sorts_in as' ++ ss → sorts_in gs ≡ ss
told_sorts_lem [] gs ss e = e
told_sorts_lem (a ∷ as') gs ss e = told_sorts_lem as' gs ss cc

-- the parts of a line of kind k
pub parts : (l : Line) (k : ℕ) → Parted l → l.kind ≡ k → Groups (told_sorts (record_of k).rules) (λ gs. l.parts ≡ (record_of k).always ++ gs)
parts l k p e =
    let g = p.always in
    let q : sorts_in ((record_of k).always ++ g.0) ≡ group_sorts (record_of k) = rw (← e, ← g.1) p.sorts in
    rw (← told_sorts_lem (record_of k).always g.0 (told_sorts (record_of k).rules) q) (groups g.0 (λ gs. l.parts ≡ (record_of k).always ++ gs) (rw (← e) g.1))

-- ... of which its FLAGs tell none or one
pub flags : (l : Line) (k : ℕ) → Parted l → l.kind ≡ k → (gs : List (ℕ × Sort)) × (l.parts ≡ (record_of k).always ++ gs) × Flagged (record_of k).rules gs
flags l k p e = rw (← e) p.always
