-- The statements of an entry, one behind another. Assumes nothing.
use mathlib.Core.Path.{◌≡◌, refl, sym, ◌∙◌}
use mathlib.Core.Logic.{◌≢◌}
use mathlib.Core.List.{List, ◌∷◌}
use mathlib.Core.Bool.{Bool, false, cond}
use Prim.Native.Nat.{ℕ, zero, suc, ◌+◌, ◌<◌, ◌≤◌}
use native.Mathlib.Numerals.{add-one}
use native.Mathlib.Omega.{arith}
use lib.ListN.{length, set, length-set}
use lib.Seq.{get_or-set_same, get_or-set_other}
use Rattle.std.specs.Prelude.{Option, Some, None, Result, Ok, Err}
use Rattle.grammar.specs.Grammar as grammar
use Rattle.sheet.specs.Records.{Steps}
use Rattle.sheet.specs.declared.records.Records.{Records}
use Rattle.sheet.specs.Scratch.{kind_at, end_at, name_at, skip, line_count, param_count, body_count, clause_count}
use Rattle.rules.specs.Text.{Name}
use Rattle.rules.specs.Ast.{list}
use Rattle.rules.specs.Asking.{Res, ◌>>◌, if_some}
use Rattle.rules.specs.Assets.{narrow_set, narrow_stmt, wrapped_after, narrow_stmts, narrow_wrapping}
use Rattle.rules.specs.Standing.{expr_at, exprs_at, params_at, stmt_at, stmts_at, entry_at, model_in, Loaded, Here, Row, stop, next}
use Rattle.rules.proofs.Parts.{stop as end', ◌also◌, pick}
use Rattle.rules.proofs.Standing.{loaded_sheet, row_first, row_nth, skip_next}
use Rattle.rules.proofs.Forest.{skip_least}
use Rattle.rules.proofs.Records.{guard_at, let_at, emit_at, assign_at, do_at, event_at_lem, EntryParts, entry_at_lem, stmts_next, no_stmts}
use Rattle.refusals.specs.Answers.{Answers}
use Rattle.lookups.specs.Found.{FoundKind}
use Rattle.refusals.specs.Refusal.{refusal_of, done_of}
use Rattle.refusals.specs.declared.refusal.Refusal.{Refusal}
use Rattle.refusals.proofs.Answers.{gives, then_fine, then_refused}
use Rattle.lookups.specs.Event.{found_event, EventNamed}
use Rattle.lookups.specs.Lines.{KindAt}
use Rattle.wrapping.specs.Marks.{is_wrapping_let, wrapped_names}
use Rattle.wrapping.specs.Names.{names_in}
use Rattle.wrapping.specs.declared.marks.Wrapped.{Wrapped}
use Rattle.sheet.specs.declared.loaded_sheet.LoadedSheet.{LoadedSheet}
use Rattle.wrapping.specs.Reach.{reaches_each}
use Rattle.grammar.specs.Kinds as kinds
use Rattle.sheet.specs.Line.{most_lines}

-- ------------------------------------------------------------ an `emit`

module _ (s S : List ℕ) (M : List Bool) (k body i : ℕ) (d : Loaded s S) (a : Here S grammar.Stmt i) (e : kind_at S i ≡ kinds.emit) (x : Name) (r : Option ℕ) (y : x ≡ name_at s S i) (f : EventNamed s S x r) where
  abbrev Judged : Res Unit → Type 0
  Judged t = Answers (narrow_stmt (model_in s) (wrapped_names s S M k body) (stmt_at s i)) t

  pub emit_none : r ≡ None → Judged (done_of s (Ok tt))
  unfolding narrow_stmt if_some done_of found_event
  emit_none q = rw ((emit_at d a e).0, ← y, ← f.found, q) (gives tt)

  module _ (j : ℕ) (q : r ≡ Some j) where
    of_event : (j < line_count S) × (kind_at S j ≡ kinds.event)
    of_event = let o : FoundKind S kinds.event (Some j) = rw q at f.kind in o

    pub emit-event : KindAt kinds.event S j
    emit-event = record { within = of_event.0; kind = of_event.1 }

    pub emit-judged : (t : Result Unit Refusal) → Answers (reaches_each (wrapped_names s S M k body) (name_at s S i) (list (exprs_at s (param_count S i) (suc i))) (params_at s (param_count S j) (suc j))) (done_of s t) → Judged (done_of s t)
    unfolding narrow_stmt if_some found_event reaches_each
    emit-judged t h = rw ((emit_at d a e).0, ← y, ← f.found, q, (event_at_lem d of_event.0 of_event.1).0, y) h

-- ------------------------------------------------------------ a statement by its kind

module _ (s S : List ℕ) (M : List Bool) (k body i : ℕ) (d : Loaded s S) (a : Here S grammar.Stmt i) where
  abbrev Said : Res Unit → Type 0
  Said t = Answers (narrow_stmt (model_in s) (wrapped_names s S M k body) (stmt_at s i)) t

  pub do_value : kind_at S i ≡ kinds.do' → Here S grammar.Expr (i + 1)
  do_value h = rw (add-one i) (row_first (do_at d a h).1)

  pub do_judged : (t : Result Unit Refusal) → kind_at S i ≡ kinds.do' → Answers (narrow_set (model_in s) (wrapped_names s S M k body) (expr_at s (i + 1))) (done_of s t) → Said (done_of s t)
  unfolding narrow_stmt
  do_judged t h j = rw ((do_at d a h).0, ← add-one i) j

  pub stmt_plain : kind_at S i ≢ kinds.emit → kind_at S i ≢ kinds.assign → kind_at S i ≢ kinds.do' → Said (done_of s (Ok tt))
  unfolding narrow_stmt done_of
  stmt_plain x y z =
      pick {P = λ m. kind_at S i ≡ m → Said (done_of s (Ok tt))} {i = kinds.guard} {n = 5} (kind_at S i)
      ((λ h. rw (guard_at d a h).0 (gives tt))
      also (λ h. rw (let_at d a h).0 (gives tt))
      also (λ h. absurd (x h))
      also (λ h. absurd (y h))
      also (λ h. absurd (z h))
      also end')
      a.kind.0 a.kind.1 refl

-- ------------------------------------------------------------ the names after a statement

before_last : {S : List ℕ} {σ : grammar.Sort} {k i : ℕ} → Row S σ k i → (j : ℕ) → j < k → skip S j i < skip S k i
unfolding skip
before_last stop j h = absurd (omega arith)
before_last (next x xs) zero h = omega (arith, x.after, skip_least xs)
before_last (next x xs) (suc j) h = before_last xs j (omega arith)

-- a mark behind the statements changes nothing
names-kept : (s S : List ℕ) (M : List Bool) (k body l : ℕ) (v : Bool) → ((j : ℕ) → j < k → skip S j body < l) → wrapped_names s S (set M l v) k body ≡ wrapped_names s S M k body
unfolding wrapped_names
names-kept s S M zero body l v h = refl
names-kept s S M (suc k) body l v h =
    rw (get_or-set_other M l (skip S k body) v false (λ e. omega (arith, h k (omega arith))), names-kept s S M k body l v (λ j z. h j (omega arith))) refl

module _ (s S : List ℕ) (M : List Bool) (k body i : ℕ) (d : Loaded s S) (few : line_count S ≤ most_lines) (row : Row S grammar.Stmt k body) (a : Here S grammar.Stmt i) (z : i ≡ skip S k body) (w : length M ≡ most_lines) where
  abbrev xs : List Name
  xs = wrapped_names s S M k body

  abbrev marked : List Bool
  marked = set M i (is_wrapping_let s S xs i)

  names_of : wrapped_names s S marked (suc k) body ≡ cond (is_wrapping_let s S xs i) (name_at s S i ∷ xs) xs
  unfolding wrapped_names
  names_of =
      rw (
        ← z,
        get_or-set_same M i (is_wrapping_let s S xs i) false (omega (arith, a.within, few, w)),
        names-kept s S M k body i (is_wrapping_let s S xs i) (λ j h. rw z (before_last row j h)),
      )
      refl

  abbrev Told : ℕ → Type 0
  Told m = kind_at S i ≡ m → cond (is_wrapping_let s S xs i) (name_at s S i ∷ xs) xs ≡ wrapped_after xs (stmt_at s i)

  told : Told (kind_at S i)
  unfolding is_wrapping_let wrapped_after
  told =
      pick {P = Told} {i = kinds.guard} {n = 5} (kind_at S i)
      ((λ e. rw (is_wrapping_let, e, (guard_at d a e).0) refl)
      also (λ e. rw (is_wrapping_let, e, (let_at d a e).0) refl)
      also (λ e. rw (is_wrapping_let, e, (emit_at d a e).0) refl)
      also (λ e. rw (is_wrapping_let, e, (assign_at d a e).0) refl)
      also (λ e. rw (is_wrapping_let, e, (do_at d a e).0) refl)
      also end')
      a.kind.0 a.kind.1

  names-after : wrapped_names s S marked (suc k) body ≡ wrapped_after xs (stmt_at s i)
  names-after = names_of ∙ told refl

-- ------------------------------------------------------------ the statements of an entry

module _ (s S : List ℕ) (i n : ℕ) (d : Loaded s S) (h : KindAt kinds.entry S i) (e : n ≡ body_count S i) where
  at_entry : EntryParts s S i (param_count S i) (clause_count S i) (body_count S i)
  at_entry = entry_at_lem d h.within h.kind

  pub no_body : n ≡ 0 → Answers (narrow_wrapping (model_in s) (entry_at s i)) (done_of s (Ok tt))
  unfolding narrow_wrapping narrow_stmts done_of
  no_body z = rw (at_entry.is, ← e, z, no_stmts) (gives tt)

-- no bound statement refuses, and r goes over the others
pub record Going (x : LoadedSheet) (i n : ℕ) (w : Wrapped) (r : Records) : Type 0 where
  pub sheet : w.sheet ≡ x
  pub row : Row w.sheet.lines.now grammar.Stmt n w.body
  pub lines : r.lines.now ≡ w.sheet.lines.now
  pub left : w.bound + r.left ≡ n
  pub here : r.at ≡ skip w.sheet.lines.now w.bound w.body
  pub marks : length w.marks ≡ most_lines
  pub rest : (d : Res Unit) → Answers (narrow_stmts (model_in w.sheet.bytes.now) (names_in w) (stmts_at w.sheet.bytes.now r.left r.at)) d
      → Answers (narrow_wrapping (model_in w.sheet.bytes.now) (entry_at w.sheet.bytes.now i)) d

pub go_start : (x : LoadedSheet) (i n : ℕ) (w : Wrapped) (r : Records) → KindAt kinds.entry x.lines.now i → n ≡ body_count x.lines.now i → w.sheet ≡ x
    → w.body ≡ skip x.lines.now (clause_count x.lines.now i) (skip x.lines.now (param_count x.lines.now i) (suc i)) → w.bound ≡ 0 → length w.marks ≡ most_lines
    → r.lines.now ≡ x.lines.now → r.left ≡ n → r.at ≡ w.body → Going x i n w r
unfolding narrow_wrapping wrapped_names skip
go_start x i n w r h e f y b m l p q =
    let t = at_entry x.bytes.now x.lines.now i n (loaded_sheet x.loaded) h e in
    record {
      sheet = f;
      row = rw (f, e, y) t.body;
      lines = rw f l;
      left = omega (arith, b, p);
      here = rw b q;
      marks = m;
      rest = λ d j. rw (f, t.is, ← e, ← y) (rw (f, b, p, q) at j);
    }

module _ (x : LoadedSheet) (i n : ℕ) (w : Wrapped) (r : Records) (g : Going x i n w r) where
  abbrev s : List ℕ
  s = w.sheet.bytes.now

  abbrev S : List ℕ
  S = w.sheet.lines.now

  abbrev Answered : Res Unit → Type 0
  Answered d = Answers (narrow_wrapping (model_in s) (entry_at s i)) d

  pub go_over : r.left ≡ 0 → Answers (narrow_wrapping (model_in x.bytes.now) (entry_at x.bytes.now i)) (done_of x.bytes.now (Ok tt))
  unfolding narrow_stmts done_of
  go_over h = rw (← g.sheet) (g.rest _ (rw (h, no_stmts) (gives tt)))

  module _ (at : ℕ) (u : Records) (h : Steps r at u) where
    pub at-skip : at ≡ skip S w.bound w.body
    at-skip = h.here ∙ g.here

    some : w.bound < n
    some = omega (arith, g.left, h.left)

    pub go_stmt : Here S grammar.Stmt at
    go_stmt = rw at-skip (row_nth w.bound some g.row)

    module _ (t : Result Unit Refusal) (f : Answers (narrow_stmt (model_in s) (names_in w) (stmt_at s at)) (done_of s t)) where
      turn : (d : Res Unit) → Answers (narrow_stmt (model_in s) (names_in w) (stmt_at s at) >> narrow_stmts (model_in s) (wrapped_after (names_in w) (stmt_at s at)) (stmts_at s u.left (end_at S at))) d
          → Answered d
      unfolding narrow_stmts
      turn d j = g.rest d (rw (h.left, ← h.here, stmts_next (loaded_sheet w.sheet.loaded) u.left go_stmt.within) j)

      pub go_refused : (why : Refusal) → t ≡ Err why → Answers (narrow_wrapping (model_in x.bytes.now) (entry_at x.bytes.now i)) (done_of x.bytes.now (Err why))
      unfolding done_of
      go_refused why q = rw (← g.sheet) (turn _ (then_refused _ _ (refusal_of s why) (rw q at f)))

      pub go_next : (v : Wrapped) → t ≡ Ok tt → v.sheet ≡ w.sheet → v.body ≡ w.body → v.bound ≡ w.bound + 1 → v.marks ≡ set w.marks at (is_wrapping_let s S (names_in w) at) → Going x i n v u
      unfolding done_of
      go_next v q es eb en em =
          let b : u.at ≡ end_at S at = h.behind ∙ rw (g.lines, h.here) refl in
          record {
            sheet = es ∙ g.sheet;
            row = rw (es, eb) g.row;
            lines = rw es (h.lines ∙ g.lines);
            left = omega (arith, g.left, h.left, en);
            here = rw (es, eb, en, add-one w.bound) (b ∙ rw at-skip (sym (skip_next S w.bound w.body)));
            marks = rw em (length-set w.marks at _ ∙ g.marks);
            rest =
                rw (es, eb, en, em, add-one w.bound)
                (λ d j. turn d (then_fine _ _ tt d (rw q at f)
                (rw (← names-after s S w.marks w.bound w.body at (loaded_sheet w.sheet.loaded) w.few w.row go_stmt at-skip g.marks, ← b) j)));
          }
