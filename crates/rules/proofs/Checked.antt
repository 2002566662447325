-- The whole of `check` from a table of zeros, with kept types: what the rules say, and the marks of their askings. Assumes nothing.
use mathlib.Core.Path.{◌≡◌, refl, ◌∙◌, ap}
use mathlib.Core.List.{List, [], ◌∷◌, ◌++◌, append_assoc}
use mathlib.Core.Bool.{Bool, cond}
use mathlib.Core.Logic.{inl}
use Prim.Native.Nat.{ℕ, ◌<◌, ◌≤◌}
use native.Mathlib.Omega.{arith}
use lib.Dec.{ltb}
use lib.ListN.{length, replicate, length-replicate}
use borrow.Author.Tests.{lt-ltb, le-ltb}
use Rattle.std.specs.Prelude.{Option, Some, None}
use Rattle.sheet.specs.Line.{Line}
use Rattle.sheet.specs.Load.{LoadResult, lines, refused as unread, load}
use Rattle.sheet.specs.Tree.{trees}
use Rattle.rules.specs.Text.{Name}
use Rattle.rules.specs.Ast.{Expr, Field, Entry, Stmt, guard, bind, emit, assign, do', Item, state, event, invariant, genesis, entry, line, line_after, contract_of}
use Rattle.rules.specs.Asking.{Rule, ret, Out, fresh, Res, ok, refused, if_some}
use Rattle.rules.specs.declared.ty.Ty.{Ty}
use Rattle.rules.specs.declared.ty.Ty.TheVariants.{Int}
use Rattle.rules.specs.Kept.{kept, marks}
use Rattle.rules.specs.Model.{Model, item_model, joined, build}
use Rattle.rules.specs.Typing.{Env, new, in_genesis, bound, ty_of}
use Rattle.rules.specs.Statements.{expect_predicate}
use Rattle.rules.specs.KeyKinds.{present, clause_exprs, body_exprs, entry_exprs}
use Rattle.rules.specs.Check.{param_types, check_entry, check_field, check_default, check_genesis, before_entries, check}
use Rattle.rules.specs.Verdict.{model_of, ruled, judge, verdict, kept_judge, kept_verdict}
use Rattle.rules.proofs.All.{All, all_append, all_split}
use Rattle.rules.proofs.Keeps.{Mapped, Afresh, zeros, keeps}
use Rattle.rules.proofs.Coherence.{C, CEach, c_then, c_list, c_pure, Fits}
use Rattle.rules.proofs.Lines.{line_lt_after, out_at, fits}
use Rattle.rules.proofs.Lets.{Past, past_on}
use Rattle.rules.proofs.Pure.{p_for, p_storable, p_digest, p_guardian, p_event_param, p_entry_param, p_key_kinds}
use Rattle.rules.proofs.Whole.{FitsEach, FitsBody, w_predicate, w_entry, w_default, w_genesis}
use Rattle.rules.proofs.Ordered.{Ordered, defaults, item_exprs, all_exprs, ordered}

-- An expression, with the surroundings in which its type is asked.
abbrev Pair : Type 0
Pair = Env × Expr

abbrev exprs : List Pair → List Expr
exprs [] = []
exprs (p ∷ ps) = p.1 ∷ exprs ps

abbrev with_env : Env → List Expr → List Pair
with_env Γ [] = []
with_env Γ (e ∷ es) = (Γ, e) ∷ with_env Γ es

-- the surroundings after a `let` whose value came to r
abbrev bound_r : Env → Name → Res Ty → ℕ → Env
bound_r Γ x (ok t) i = bound Γ x t i
bound_r Γ x (refused r) i = Γ

abbrev body_pairs : Env → List Stmt → List Pair
body_pairs Γ [] = []
body_pairs Γ (guard e ∷ ss) = (Γ, e) ∷ body_pairs Γ ss
body_pairs Γ (bind x v ∷ ss) = (Γ, v) ∷ body_pairs (bound_r Γ x (fresh (ty_of Γ v)).res (line_after v)) ss
body_pairs Γ (emit x es ∷ ss) = with_env Γ es ++ body_pairs Γ ss
body_pairs Γ (assign s o t v ∷ ss) = (Γ, t) ∷ (Γ, v) ∷ body_pairs Γ ss
body_pairs Γ (do' e ∷ ss) = (Γ, e) ∷ body_pairs Γ ss

abbrev entry_env : Model → Entry → Env
entry_env M en = new M (param_types en.params)

abbrev item_pairs : Model → Item → List Pair
item_pairs M (state fs) = with_env (new M []) (defaults fs)
item_pairs M (event e) = []
item_pairs M (invariant e) = (new M [], e) ∷ []
item_pairs M (genesis ss) = with_env (in_genesis (new M [])) (body_exprs ss)
item_pairs M (entry en) = with_env (entry_env M en) (clause_exprs en.clauses) ++ body_pairs (entry_env M en) en.body

abbrev all_pairs : Model → List Item → List Pair
all_pairs M [] = []
all_pairs M (i ∷ is') = item_pairs M i ++ all_pairs M is'

-- ------------------------------------------------------------ the pairs' expressions are those of the sheet, in order

exprs_append : (ps qs : List Pair) → exprs (ps ++ qs) ≡ exprs ps ++ exprs qs
exprs_append [] qs = refl
exprs_append (p ∷ ps) qs = ap (λ l. p.1 ∷ l) (exprs_append ps qs)

exprs_with : (Γ : Env) (es : List Expr) → exprs (with_env Γ es) ≡ es
exprs_with Γ [] = refl
exprs_with Γ (e ∷ es) = ap (λ l. e ∷ l) (exprs_with Γ es)

exprs_body : (Γ : Env) (ss : List Stmt) → exprs (body_pairs Γ ss) ≡ body_exprs ss
unfolding body_exprs
exprs_body Γ [] = refl
exprs_body Γ (guard e ∷ ss) = ap (λ l. e ∷ l) (exprs_body Γ ss)
exprs_body Γ (bind x v ∷ ss) = ap (λ l. v ∷ l) (exprs_body (bound_r Γ x (fresh (ty_of Γ v)).res (line_after v)) ss)
exprs_body Γ (emit x es ∷ ss) = exprs_append (with_env Γ es) _ ∙ rw (exprs_with Γ es, exprs_body Γ ss)
exprs_body Γ (assign s o t v ∷ ss) = ap (λ l. t ∷ v ∷ l) (exprs_body Γ ss)
exprs_body Γ (do' e ∷ ss) = ap (λ l. e ∷ l) (exprs_body Γ ss)

exprs_item : (M : Model) (i : Item) → exprs (item_pairs M i) ≡ item_exprs i
unfolding entry_exprs
exprs_item M (state fs) = exprs_with _ _
exprs_item M (event e) = refl
exprs_item M (invariant e) = refl
exprs_item M (genesis ss) = exprs_with _ _
exprs_item M (entry en) = exprs_append (with_env (entry_env M en) (clause_exprs en.clauses)) _ ∙ rw (exprs_with (entry_env M en) (clause_exprs en.clauses), exprs_body (entry_env M en) en.body)

exprs_all : (M : Model) (is' : List Item) → exprs (all_pairs M is') ≡ all_exprs is'
exprs_all M [] = refl
exprs_all M (i ∷ is') = exprs_append (item_pairs M i) _ ∙ rw (exprs_item M i, exprs_all M is')

-- ------------------------------------------------------------ no bound `let` ends behind what is asked

abbrev Plain : Pair → Type 0
Plain p = Past p.0.ends (line p.1)

-- the pairs ps are plain, and the expressions fs behind them stand in order from a line k on
abbrev Passed : List Pair → (i j : ℕ) → List Expr → Type 0
Passed ps i j fs = All Plain ps × (k : ℕ) × (i ≤ k) × Ordered k j fs

-- expressions from a line on, behind which no bound `let` ends
plain_with : (Γ : Env) (es fs : List Expr) (i j : ℕ) → Past Γ.ends i → Ordered i j (es ++ fs) → Passed (with_env Γ es) i j fs
plain_with Γ [] fs i j p o = (tt, i, omega arith, o)
plain_with Γ (e ∷ es) fs i j p o =
    let a = o.0 in
    let b = line_lt_after e o.1 in
    let r = plain_with Γ es fs (line_after e) j (past_on Γ.ends i (line_after e) p (omega arith)) o.2 in
    let c = r.2 in
    ((past_on Γ.ends i (line e) p a, r.0), r.1, omega arith, r.3)

past_bound : (Γ : Env) (x : Name) (r : Res Ty) (i j : ℕ) → Past Γ.ends i → i ≤ j → Past (bound_r Γ x r j).ends j
unfolding bound
past_bound Γ x (ok t) i j p h = all_append (λ b. b.1 ≤ j) Γ.ends ((x, j) ∷ []) (past_on Γ.ends i j p h) (omega arith, tt)
past_bound Γ x (refused r) i j p h = past_on Γ.ends i j p h

-- ... and what comes behind them
plain_then : (Γ : Env) (es : List Expr) (ps : List Pair) (gs fs : List Expr) (i j : ℕ) → Past Γ.ends i → Ordered i j (es ++ gs)
    → ((k : ℕ) → Past Γ.ends k → Ordered k j gs → Passed ps k j fs) → Passed (with_env Γ es ++ ps) i j fs
plain_then Γ es ps gs fs i j p o f =
    let r = plain_with Γ es gs i j p o in
    let q = f r.1 (past_on Γ.ends i r.1 p r.2) r.3 in
    let a = r.2 in
    let b = q.2 in
    (all_append Plain (with_env Γ es) ps r.0 q.0, q.1, omega arith, q.3)

plain_body : (Γ : Env) (ss : List Stmt) (fs : List Expr) (i j : ℕ) → Past Γ.ends i → Ordered i j (body_exprs ss ++ fs) → Passed (body_pairs Γ ss) i j fs
unfolding body_exprs
plain_body Γ [] fs i j p o = (tt, i, omega arith, o)
plain_body Γ (guard e ∷ ss) fs i j p o = plain_then Γ (e ∷ []) (body_pairs Γ ss) (body_exprs ss ++ fs) fs i j p o (λ k. plain_body Γ ss fs k j)
plain_body Γ (bind x v ∷ ss) fs i j p o =
    let a = o.0 in
    let b = line_lt_after v o.1 in
    let r = plain_body (bound_r Γ x (fresh (ty_of Γ v)).res (line_after v)) ss fs (line_after v) j (past_bound Γ x (fresh (ty_of Γ v)).res i (line_after v) p (omega arith)) o.2 in
    let c = r.2 in
    ((past_on Γ.ends i (line v) p a, r.0), r.1, omega arith, r.3)
plain_body Γ (emit x es ∷ ss) fs i j p o = plain_then Γ es (body_pairs Γ ss) (body_exprs ss ++ fs) fs i j p (rw append_assoc at o) (λ k. plain_body Γ ss fs k j)
plain_body Γ (assign s op t v ∷ ss) fs i j p o = plain_then Γ (t ∷ v ∷ []) (body_pairs Γ ss) (body_exprs ss ++ fs) fs i j p o (λ k. plain_body Γ ss fs k j)
plain_body Γ (do' e ∷ ss) fs i j p o = plain_then Γ (e ∷ []) (body_pairs Γ ss) (body_exprs ss ++ fs) fs i j p o (λ k. plain_body Γ ss fs k j)

plain_item : (M : Model) (x : Item) (fs : List Expr) (i j : ℕ) → Ordered i j (item_exprs x ++ fs) → Passed (item_pairs M x) i j fs
unfolding new in_genesis entry_exprs
plain_item M (state gs) fs i j o = plain_with (new M []) (defaults gs) fs i j tt o
plain_item M (event e) fs i j o = (tt, i, omega arith, o)
plain_item M (invariant e) fs i j o = plain_with (new M []) (e ∷ []) fs i j tt o
plain_item M (genesis ss) fs i j o = plain_with (in_genesis (new M [])) (body_exprs ss) fs i j tt o
plain_item M (entry en) fs i j o = plain_then (entry_env M en) (clause_exprs en.clauses) (body_pairs (entry_env M en) en.body) (body_exprs en.body ++ fs) fs i j tt (rw append_assoc at o) (λ k. plain_body (entry_env M en) en.body fs k j)

plain_all : (M : Model) (is' : List Item) (i j : ℕ) → Ordered i j (all_exprs is') → All Plain (all_pairs M is')
plain_all M [] i j o = tt
plain_all M (x ∷ xs) i j o =
    let r = plain_item M x (all_exprs xs) i j o in
    all_append Plain (item_pairs M x) _ r.0 (plain_all M xs r.1 j r.3)

-- ------------------------------------------------------------ what typing each line comes to

abbrev out_of : List Pair → ℕ → Out Ty
out_of [] x = fresh (ret Int)
out_of (p ∷ ps) x = cond (ltb x (line_after p.1)) (out_at p.0 p.1 x) (out_of ps x)

ordered_most : (i j : ℕ) (es : List Expr) → Ordered i j es → i ≤ j
ordered_most i j [] h = h
ordered_most i j (e ∷ es) h = let a = line_lt_after e h.1 in let b = ordered_most (line_after e) j es h.2 in let c = h.0 in omega arith

module _ (m : ℕ → Out Ty) (n : ℕ) where
  abbrev Q : Bool → ℕ → Rule Ty → Type 0
  Q = Mapped m n

  abbrev FitsIn : Pair → Type 0
  FitsIn p = Fits Q Afresh p.0 p.1

  fits_pairs : (ps : List Pair) (i j : ℕ) → Ordered i j (exprs ps) → j ≤ n → All Plain ps → ((x : ℕ) → i ≤ x → x < j → m x ≡ out_of ps x) → All FitsIn ps
  fits_pairs [] i j o b p f = tt
  fits_pairs (p ∷ ps) i j o b q f =
      let e = p.1 in
      let a = line_lt_after e o.1 in
      let c = ordered_most (line_after e) j (exprs ps) o.2 in
      let d = o.0 in (
        fits m n p.0 (line e) q.0 e (omega arith) o.1 (omega arith)
            (λ x u v. f x (omega arith) (omega arith) ∙ rw (lt-ltb x (line_after e) v)),
        fits_pairs ps (line_after e) j o.2 b q.1 (λ x u v. f x (omega arith) v ∙ rw (le-ltb x (line_after e) u)),
      )

  each_with : (Γ : Env) (es : List Expr) → All FitsIn (with_env Γ es) → FitsEach Q Γ es
  each_with Γ [] h = tt
  each_with Γ (e ∷ es) h = (h.0, each_with Γ es h.1)

  each_body : (Γ : Env) (ss : List Stmt) → All FitsIn (body_pairs Γ ss) → FitsBody Q Γ ss
  each_body Γ [] h = tt
  each_body Γ (guard e ∷ ss) h = (h.0, each_body Γ ss h.1)
  each_body Γ (bind x v ∷ ss) h = (h.0, λ t q. each_body (bound Γ x t (line_after v)) ss (rw q at h.1))
  each_body Γ (emit x es ∷ ss) h = let r = all_split FitsIn (with_env Γ es) _ h in (each_with Γ es r.0, each_body Γ ss r.1)
  each_body Γ (assign s o t v ∷ ss) h = (h.0, h.1.0, each_body Γ ss h.1.1)
  each_body Γ (do' e ∷ ss) h = (h.0, each_body Γ ss h.1)

  -- ------------------------------------------------------------ `check` is coherent where every expression fits

  c_default : (M : Model) (f : Field) (o : Option Expr) → FitsEach Q (new M []) (present o) → C Q Afresh (if_some o (check_default (new M []) f))
  unfolding if_some present
  c_default M f None h = tt
  c_default M f (Some v) h = w_default Q M f v h.0

  c_field : (M : Model) (f : Field) → FitsEach Q (new M []) (present f.default) → C Q Afresh (check_field (new M []) f)
  unfolding check_field
  c_field M f h = c_then Q Afresh _ _ (c_pure Q Afresh (p_storable f.ty)) (c_then Q Afresh _ _ (c_pure Q Afresh (p_digest f.name f.ty)) (c_default M f f.default h))

  c_fields : (M : Model) (fs : List Field) → FitsEach Q (new M []) (defaults fs) → CEach Q Afresh (check_field (new M [])) fs
  c_fields M [] h = tt
  c_fields M (f ∷ fs) h = let r = all_split (Fits Q Afresh (new M [])) (present f.default) (defaults fs) h in (c_field M f r.0, c_fields M fs r.1)

  c_genesis : (Γ : Env) (ss : List Stmt) → FitsEach Q Γ (body_exprs ss) → CEach Q Afresh (check_genesis Γ) ss
  unfolding body_exprs
  c_genesis Γ [] h = tt
  c_genesis Γ (guard e ∷ ss) h = (w_genesis Q Γ (guard e) (h.0, tt), c_genesis Γ ss h.1)
  c_genesis Γ (bind x v ∷ ss) h = (w_genesis Q Γ (bind x v) (h.0, tt), c_genesis Γ ss h.1)
  c_genesis Γ (emit x es ∷ ss) h =
      let r = all_split (Fits Q Afresh Γ) es (body_exprs ss) h in
      (w_genesis Q Γ (emit x es) (all_append (Fits Q Afresh Γ) es [] r.0 tt), c_genesis Γ ss r.1)
  c_genesis Γ (assign s o t v ∷ ss) h = (w_genesis Q Γ (assign s o t v) (h.0, (h.1.0, tt)), c_genesis Γ ss h.1.1)
  c_genesis Γ (do' e ∷ ss) h = (w_genesis Q Γ (do' e) (h.0, tt), c_genesis Γ ss h.1)

  c_item_entry : (M : Model) (en : Entry) → All FitsIn (item_pairs M (entry en)) → C Q Afresh (check_entry M en)
  c_item_entry M en h =
      let r = all_split FitsIn (with_env (entry_env M en) (clause_exprs en.clauses)) (body_pairs (entry_env M en) en.body) h in
      w_entry Q M en (each_with (entry_env M en) (clause_exprs en.clauses) r.0) (each_body (entry_env M en) en.body r.1)

  -- what `check` goes through, list by list
  record Parts (M : Model) (is' : List Item) : Type 0 where
    fields : CEach Q Afresh (check_field (new M [])) (build is').fields
    invariants : CEach Q Afresh (expect_predicate (new M [])) (build is').invariants
    entries : CEach Q Afresh (check_entry M) (build is').entries
    genesis : CEach Q Afresh (check_genesis (in_genesis (new M []))) (build is').genesis

  parts : (M : Model) (is' : List Item) → All FitsIn (all_pairs M is') → Parts M is'
  unfolding build joined item_model
  parts M [] h = record { fields = tt; invariants = tt; entries = tt; genesis = tt }
  parts M (state fs ∷ is') h =
      let r = all_split FitsIn (with_env (new M []) (defaults fs)) (all_pairs M is') h in
      let p = parts M is' r.1 in
      record {
        fields = all_append (λ f. C Q Afresh (check_field (new M []) f)) fs (build is').fields (c_fields M fs (each_with (new M []) (defaults fs) r.0)) p.fields;
        invariants = p.invariants;
        entries = p.entries;
        genesis = p.genesis;
      }
  parts M (event e ∷ is') h =
      let p = parts M is' h in
      record { fields = p.fields; invariants = p.invariants; entries = p.entries; genesis = p.genesis }
  parts M (invariant e ∷ is') h =
      let p = parts M is' h.1 in
      record { fields = p.fields; invariants = (w_predicate Q (new M []) e h.0, p.invariants); entries = p.entries; genesis = p.genesis }
  parts M (genesis ss ∷ is') h =
      let Γ = in_genesis (new M []) in
      let r = all_split FitsIn (with_env Γ (body_exprs ss)) (all_pairs M is') h in
      let p = parts M is' r.1 in
      record {
        fields = p.fields;
        invariants = p.invariants;
        entries = p.entries;
        genesis = all_append (λ s. C Q Afresh (check_genesis Γ s)) ss (build is').genesis (c_genesis Γ ss (each_with Γ (body_exprs ss) r.0)) p.genesis;
      }
  parts M (entry en ∷ is') h =
      let r = all_split FitsIn (item_pairs M (entry en)) (all_pairs M is') h in
      let p = parts M is' r.1 in
      record { fields = p.fields; invariants = p.invariants; entries = (c_item_entry M en r.0, p.entries); genesis = p.genesis }

  c_check : (is' : List Item) → All FitsIn (all_pairs (build is') is') → C Q Afresh (check (build is'))
  unfolding check before_entries
  c_check is' h =
      let M = build is' in
      let p = parts M is' h in
      c_then Q Afresh _ _
      (c_then Q Afresh _ _ (c_list Q Afresh _ _ p.fields)
      (c_then Q Afresh _ _ (c_pure Q Afresh (p_for _ (λ e. p_for _ p_event_param)))
      (c_then Q Afresh _ _ (c_pure Q Afresh (p_for _ (λ f. p_guardian f.ty)))
      (c_then Q Afresh _ _ (c_pure Q Afresh (p_for _ (λ e. p_for _ p_entry_param)))
      (c_list Q Afresh _ _ p.invariants)))))
      (c_then Q Afresh _ _ (c_list Q Afresh _ _ p.entries)
      (c_then Q Afresh _ _ (c_pure Q Afresh (p_key_kinds M)) (c_list Q Afresh _ _ p.genesis)))

-- ------------------------------------------------------------ demand 3

abbrev Kept≡Fresh : (n : ℕ) → Rule Unit → Type 0
Kept≡Fresh n p = ((kept p (replicate n 0)).res ≡ (fresh p).res) × ((kept p (replicate n 0)).table ≡ marks (replicate n 0) (fresh p).log)

check-kept : (n : ℕ) (is' : List Item) → Ordered 0 n (all_exprs is') → Kept≡Fresh n (check (build is'))
check-kept n is' o =
    let M = build is' in
    let m : ℕ → Out Ty = out_of (all_pairs M is') in
    let f = fits_pairs m n (all_pairs M is') 0 n (rw (exprs_all M is') o) (omega arith) (plain_all M is' 0 n o) (λ x u v. refl) in
    let k = keeps m n (check M) (replicate n 0) (c_check m n is' f) (length-replicate n 0) (λ l. inl (zeros n l)) in
    (k.res, k.table)

-- On a sheet that is read, from a table of zeros: with kept types `check` comes to what it comes to with fresh ones, and the table is
-- afterwards the marks of the rules' askings.
pub sheet_kept : (s : List ℕ) (types scratch : ℕ) (ls : List Line) → load s types scratch ≡ lines ls → Kept≡Fresh (length ls) (check (model_of ls))
unfolding model_of
sheet_kept s types scratch ls h = check-kept (length ls) (contract_of (trees 0 ls)) (ordered s types scratch ls h)

-- So the whole answer may be told from the kept types.
pub verdict-kept : (s : List ℕ) (types scratch message : ℕ) → verdict s types scratch message ≡ kept_verdict s types scratch message
unfolding verdict kept_verdict judge kept_judge ruled
verdict-kept s types scratch message = by_cases (load s types scratch) (sheet_kept s types scratch)
  where
    by_cases : (o : LoadResult) → ((ls : List Line) → o ≡ lines ls → Kept≡Fresh (length ls) (check (model_of ls))) → judge message o ≡ kept_judge message o
    by_cases (unread n i) f = refl
    by_cases (lines ls) f = let k = f ls refl in rw (k.0, k.1)
