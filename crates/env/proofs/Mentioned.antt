-- The names of `let`s that an expression mentions, line by line. Assumes nothing.
use mathlib.Core.Logic.{◌≢◌}
use mathlib.Core.Path.{◌≡◌, refl, sym, ap, ◌∙◌}
use mathlib.Core.List.{List, [], ◌∷◌, append-nil}
use mathlib.Core.Bool.{Bool, false, ◌||◌, ◌&&◌, or_assoc, or-false}
use Prim.Native.Nat.{ℕ, zero, suc, ◌+◌, ◌-◌, ◌<◌, ◌≤◌}
use native.Mathlib.Numerals.{add-one}
use native.Mathlib.Omega.{arith}
use lib.Dec.{eqb, ltb}
use borrow.Author.Tests.{eq-eqb, ne_eqb}
use Rattle.std.specs.Prelude.{Option, Some, None}
use Rattle.std.specs.List.{list_any, range_with_len}
use Rattle.grammar.specs.Grammar as grammar
use Rattle.sheet.specs.Line.{Line}
use Rattle.sheet.specs.Load.{sorts, copies}
use Rattle.sheet.specs.Scratch.{kind_at, name_at, end_at, line_count}
use Rattle.sheet.specs.Tree.{Node, node, Nodes, nil, more, before}
use Rattle.sheet.specs.Held.{Held, held, HeldAll, no_tree, tree, Among, Parted, Formed, formed, FormedAll, none_due, one_due}
use Rattle.sheet.proofs.Holds.{all_le}
use Rattle.rules.specs.Text.{Name, among}
use Rattle.rules.specs.Ast.{expr_of, exprs_of}
use Rattle.rules.specs.Kept.{Table}
use Rattle.rules.specs.Typing.{ident_leaf, leaf_has, has, has_any, later, stale}
use Rattle.rules.specs.Standing.{trees_from, node_at, expr_at, Loaded, Here}
use Rattle.rules.proofs.Parts.{stop, ◌also◌, pick, parts}
use Rattle.rules.proofs.Exprs.{line_at}
use Rattle.rules.proofs.Lets.{past_on, not_stale}
use Rattle.rules.proofs.Standing.{stands, loaded_sheet}
use Rattle.lookups.specs.Found.{found_node, FoundKind, Last}
use Rattle.env.specs.Force.{lets, ends_in, env_of, InForce}
use Rattle.env.specs.declared.env.Env.{Env}
use Rattle.env.proofs.Lets.{let_end, ends_behind, ends_past, among_later}
use Rattle.grammar.specs.Kinds as kinds

-- ------------------------------------------------------------ one line

-- line i is an `id` with one of the names
abbrev pub hit : (s S : List ℕ) → List Name → ℕ → Bool
hit s S xs i = eqb (kind_at S i) kinds.id && among (name_at s S i) xs

module _ (s S : List ℕ) (env : Env) (i at : ℕ) (d : Loaded s S) (f : InForce S env) where
  pub no_id : (r : Bool) → kind_at S at ≢ kinds.id → r ≡ false → r ≡ hit s S (later i (ends_in s env)) at
  no_id r q z = z ∙ rw (ne_eqb (kind_at S at) kinds.id q) refl

  module _ (x : Name) (r : Option ℕ) (q : kind_at S at ≡ kinds.id) (n : x ≡ name_at s S at) (l : Last s S kinds.let' x env.bound env.body r) where
    by_search : ends_behind s i (found_node s r) ≡ hit s S (later i (ends_in s env)) at
    unfolding lets
    by_search = ap (ends_behind s i) l.found ∙ rw (eq-eqb (kind_at S at) kinds.id q, ← n) (sym (among_later s S env d f x i))

    pub is_later : (j v : ℕ) (b : Bool) → r ≡ Some j → v ≡ end_at S j → b ≡ ltb i v → b ≡ hit s S (later i (ends_in s env)) at
    unfolding found_node
    is_later j v b h w z =
        let g : FoundKind S kinds.let' (Some j) = rw h at l.kind in
        z ∙ rw (w, ← let_end d j g.0 g.1) (rw h at by_search)

    pub not_later : r ≡ None → false ≡ hit s S (later i (ends_in s env)) at
    unfolding found_node
    not_later h = rw (← by_search, h) refl

-- ------------------------------------------------------------ lines

-- p of one of the k lines from line i on
unfoldable pub any : (ℕ → Bool) → ℕ → ℕ → Bool
any p i zero = false
any p i (suc k) = p i || any p (suc i) k

any_add : (p : ℕ → Bool) (i a b : ℕ) → any p i (a + b) ≡ (any p i a || any p (i + a) b)
unfolding any
any_add p i zero b = rw (let q : 0 + b ≡ b = omega arith in q, let q : i + 0 ≡ i = omega arith in q) refl
any_add p i (suc a) b =
    rw (let q : suc a + b ≡ suc (a + b) = omega arith in q, let q : i + suc a ≡ suc i + a = omega arith in q, any_add p (suc i) a b, or_assoc) refl

any_split : (p : ℕ → Bool) (i j k : ℕ) → i ≤ j → j ≤ k → any p i (k - i) ≡ (any p i (j - i) || any p j (k - j))
any_split p i j k g h =
    rw (let q : k - i ≡ (j - i) + (k - j) = omega arith in q) (any_add p i (j - i) (k - j) ∙ rw (let q : i + (j - i) ≡ j = omega arith in q) refl)

-- ------------------------------------------------------------ one expression

-- a line's expression mentions a name by itself or in its parts, which are expressions
record Mentions (xs : List Name) (i : ℕ) (l : Line) (ps : Nodes) : Type 0 where
  count : ℕ
  exprs : FormedAll (copies count grammar.Expr) ps
  is : has xs (expr_of (node i l ps)) ≡ ((eqb l.kind kinds.id && among l.name xs) || has_any xs (exprs_of ps))

module _ (xs : List Name) (i : ℕ) (l : Line) where
  abbrev self : Bool
  self = eqb l.kind kinds.id && among l.name xs

  no_part : {ps : Nodes} → has xs (expr_of (node i l nil)) ≡ self → FormedAll [] ps → Mentions xs i l ps
  unfolding copies exprs_of has_any
  no_part h none_due = record { count = 0; exprs = none_due; is = rw or-false h }

  one_part : {ps : Nodes} → ((t : Node) → has xs (expr_of (node i l (more t nil))) ≡ (self || has xs (expr_of t))) → FormedAll (grammar.Expr ∷ []) ps → Mentions xs i l ps
  unfolding copies exprs_of has_any
  one_part h (one_due {t = t} f none_due) = record { count = 1; exprs = one_due f none_due; is = rw or-false (h t) }

  two_parts : {ps : Nodes} → ((t u : Node) → has xs (expr_of (node i l (more t (more u nil)))) ≡ (self || (has xs (expr_of t) || has xs (expr_of u)))) → FormedAll (grammar.Expr ∷ grammar.Expr ∷ []) ps → Mentions xs i l ps
  unfolding copies exprs_of has_any
  two_parts h (one_due {t = t} f (one_due {t = u} g none_due)) =
      record { count = 2; exprs = one_due f (one_due g none_due); is = rw or-false (h t u) }

  some_parts : {ps : Nodes} (k : ℕ) → ((t : Node) (ns : Nodes) → has xs (expr_of (node i l (more t ns))) ≡ (self || (has xs (expr_of t) || has_any xs (exprs_of ns)))) → FormedAll (grammar.Expr ∷ copies k grammar.Expr) ps → Mentions xs i l ps
  unfolding copies exprs_of has_any
  some_parts k h (one_due {t = t} {ns = ns} f g) = record { count = suc k; exprs = one_due f g; is = h t ns }

  -- by the line's kind
  mentions : (ps : Nodes) → Among grammar.Expr l.kind → Parted l → FormedAll (sorts l.parts) ps → Mentions xs i l ps
  unfolding sorts copies expr_of exprs_of has has_any leaf_has ident_leaf
  mentions ps a p f =
      pick {P = λ k. l.kind ≡ k → Mentions xs i l ps} {i = kinds.int} {n = 14} l.kind
      ((λ e. no_part (rw (expr_of, e) refl) (rw (parts l kinds.int p e) at f))
      also (λ e. no_part (rw (expr_of, e) refl) (rw (parts l kinds.id p e) at f))
      also (λ e. no_part (rw (expr_of, e) refl) (rw (parts l kinds.date p e) at f))
      also (λ e. no_part (rw (expr_of, e) refl) (rw (parts l kinds.str p e) at f))
      also (λ e. no_part (rw (expr_of, e) refl) (rw (parts l kinds.caller p e) at f))
      also (λ e. no_part (rw (expr_of, e) refl) (rw (parts l kinds.native p e) at f))
      also (λ e. no_part (rw (expr_of, e) refl) (rw (parts l kinds.inasset p e) at f))
      also (λ e. no_part (rw (expr_of, e) refl) (rw (parts l kinds.now p e) at f))
      also (λ e. one_part (λ t. rw (expr_of, e) refl) (rw (parts l kinds.un p e) at f))
      also (λ e. two_parts (λ t u. rw (expr_of, e) refl) (rw (parts l kinds.bin p e) at f))
      also (λ e. one_part (λ t. rw (expr_of, e) refl) (rw (parts l kinds.dot p e) at f))
      also (λ e. let g = parts l kinds.call p e in some_parts g.0 (λ t ns. rw (expr_of, e) refl) (rw (g.1, append-nil) at f))
      also (λ e. one_part (λ t. rw (expr_of, e) refl) (rw (parts l kinds.checked p e) at f))
      also (λ e. one_part (λ t. rw (expr_of, e) refl) (rw (parts l kinds.wrapping p e) at f))
      also stop)
      a.0 a.1 refl

-- ------------------------------------------------------------ the lines of an expression

within : {S : List ℕ} {n i : ℕ} {t : Node} → Held S n i t → (i < n) × (i ≤ end_at S i)
within (held h y r) = let q = all_le r in (h, omega arith)

module _ {s S : List ℕ} (d : Loaded s S) (xs : List Name) where
  mutual
    unfolding any exprs_of has_any copies before

    tree_has : {i : ℕ} {t : Node} → Held S (line_count S) i t → Formed grammar.Expr t → node_at s i ≡ t → has xs (expr_of t) ≡ any (hit s S xs) i (end_at S i - i)
    tree_has {i} (held {l = l} {ps = ps} h y r) (formed a p f) e =
        let t = stands d i h in
        let m = mentions xs i l ps a p f in
        let line : t.line ≡ l = cc (t.here, e) in
        let kids : t.parts ≡ ps = cc (t.here, e) in
        let name : name_at s S i ≡ l.name = t.spells.name ∙ ap (λ (x : Line). x.name) line in
        let q = all_le r in
        let behind : trees_from s (suc i) ≡ before ps (trees_from s (end_at S i)) = rw (← kids) t.behind in
        m.is
        ∙ rw (let z : end_at S i - i ≡ suc (end_at S i - suc i) = omega arith in z, y.kind, name, trees-has r m.count m.exprs (trees_from s (end_at S i)) behind) refl

    trees-has : {i j : ℕ} {ps : Nodes} → HeldAll S (line_count S) i j ps → (k : ℕ) → FormedAll (copies k grammar.Expr) ps → (rest : Nodes) → trees_from s i ≡ before ps rest
        → has_any xs (exprs_of ps) ≡ any (hit s S xs) i (j - i)
    trees-has {i} no_tree zero none_due rest e = rw (let z : i - i ≡ 0 = omega arith in z) refl
    trees-has no_tree (suc k) f rest e = elim f [ ]
    trees-has (tree h r) zero f rest e = elim f [ ]
    trees-has {i} {j} (tree {t = t} {ns = ns} h r) (suc k) (one_due f fs) rest e =
        let w = within h in
        let st = stands d i w.0 in
        let here : node_at s i ≡ t = cc (st.next, e) in
        let behind : trees_from s (end_at S i) ≡ before ns rest = cc (st.next, e) in
        rw (any_split (hit s S xs) i (end_at S i) j w.1 (all_le r), tree_has h f here, trees-has r k fs rest behind) refl

  pub has_lines : (i : ℕ) → Here S grammar.Expr i → has xs (expr_at s i) ≡ any (hit s S xs) i (end_at S i - i)
  unfolding expr_at
  has_lines i h =
      let t = stands d i h.within in
      rw t.here (tree_has (held h.within t.says t.held) (formed (rw (← t.says.kind) h.kind) t.parted t.formed) t.here)

-- ------------------------------------------------------------ the walk over the lines

-- from line `next` on the exception holds nowhere
pub not_stale_at : (s S : List ℕ) (env : Env) (T : Table) (i : ℕ) → Loaded s S → InForce S env → Here S grammar.Expr i → env.next ≤ i → stale (env_of s T env) (expr_at s i) ≡ false
unfolding env_of
not_stale_at s S env T i d f h q =
    not_stale (env_of s T env) (expr_at s i)
    (rw (line_at d h) (past_on (ends_in s env) env.next i (ends_past s S env d f) q))

pub past_next : (s S : List ℕ) (env : Env) (i : ℕ) (r : Bool) → Loaded s S → InForce S env → Here S grammar.Expr i → env.next ≤ i → r ≡ false → r ≡ stale (env_of s [] env) (expr_at s i)
past_next s S env i r d f h q e = e ∙ sym (not_stale_at s S env [] i d f h q)

any_is : (p : ℕ → Bool) (i n : ℕ) → list_any p (range_with_len i n) ≡ any p i n
unfolding any
any_is p i zero = refl
any_is p i (suc n) = ap (λ b. p i || b) (rw add-one (any_is p (suc i) n))

pub any_line : (s S : List ℕ) (env : Env) (i end : ℕ) → Loaded s S → Here S grammar.Expr i → end ≡ end_at S i
    → list_any (hit s S (later i (ends_in s env))) (range_with_len i (end - i)) ≡ stale (env_of s [] env) (expr_at s i)
unfolding stale env_of
any_line s S env i end d h e =
    let xs = later i (ends_in s env) in
    any_is (hit s S xs) i (end - i) ∙ sym (rw (line_at d h, e) (has_lines d xs i h))

pub ruleset laws_later = (loaded_sheet, is_later, not_later)
