-- What the checks of a line, an entry, an item and a sheet meet. Assumes nothing.
use mathlib.Core.Logic.{◌≢◌}
use mathlib.Core.Path.{◌≡◌, refl, sym, ap, ◌∙◌}
use mathlib.Core.List.{List, [], ◌∷◌, ◌++◌}
use mathlib.Core.Bool.{Bool, true, false, cond, not, ◌&&◌, true≢false}
use Prim.Native.Nat.{ℕ, zero, suc, ◌+◌, ◌-◌, ◌<◌, ◌≤◌}
use native.Mathlib.Numerals.{add-one}
use native.Mathlib.Omega.{arith}
use lib.Dec.{eqb}
use lib.ListN.{replicate, length-replicate, get_or-replicate}
use borrow.Author.Tests.{eq-eqb, ne_eqb, eqb-true, eqb-false, not-true, not-false}
use Rattle.std.specs.Prelude.{Option, Some, None, Result, Ok, Err}
use Rattle.grammar.specs.Grammar as grammar
use Rattle.sheet.specs.Scratch.{kind_at, end_at, name_at, skip, line_count, call_arg_count, item_count}
use Rattle.sheet.specs.Records.{Steps}
use Rattle.sheet.specs.Tree.{Node, take_nodes}
use Rattle.sheet.specs.declared.records.Records.{Records}
use Rattle.sheet.specs.declared.loaded_sheet.LoadedSheet.{LoadedSheet}
use Rattle.sheet.proofs.Holds.{all_le, all_most}
use Rattle.rules.specs.Text.{Name, is_one}
use Rattle.rules.specs.Ast.{Expr, Exprs, nil, more, span, exprs_of}
use Rattle.rules.specs.Arithmetic.{any}
use Rattle.rules.specs.KeyKinds.{Keyed, keyed_here, Use, is_keyed, is_name_key, uses_of, uses, check_key_kinds}
use Rattle.rules.specs.Model.{Model, build}
use Rattle.rules.specs.Standing.{node_at, nodes_at, expr_at, exprs_at, named_at, model_in, Loaded, Here, Row}
use Rattle.rules.specs.Typing.{Dot, ident_of, dot_of}
use Rattle.rules.proofs.Exprs.{call_at_lem, dot_at_lem, ident_at, is_dot_at}
use Rattle.rules.proofs.Records.{named}
use Rattle.rules.proofs.Rows.{records, IterWalk, iter_here, iter_found, iter_onward, iter_over}
use Rattle.rules.proofs.Standing.{loaded_sheet, stands, exprs_next, row_first, row_rest, row_nth}
use Rattle.refusals.specs.Answers.{Answers}
use Rattle.lookups.specs.Lines.{KindAt}
use Rattle.refusals.specs.Refusal.{done_of}
use Rattle.refusals.specs.declared.refusal.Refusal.{Refusal}
use Rattle.lookups.proofs.Fields.{items_at}
use Rattle.lookups.proofs.Items.{entries_of, entries_next, entries_other}
use Rattle.key_kinds.specs.declared.marks.KeyKind.{KeyKind}
use Rattle.key_kinds.specs.declared.marks.Seen.{Seen}
use Rattle.key_kinds.specs.Uses.{keyed_at, call_at, names_at, uses_at, entry_uses, item_uses, MapNamed, key_kind_of, is_other, Noted, KeyMarks, Passed, Judged}
use Rattle.key_kinds.proofs.Calls.{calls, calls_next, calls_none, entry_calls}
use Rattle.key_kinds.proofs.Seen.{use_judged, none_judged, passed_start, passed_next, passed_refused, passed_over, all_judged}
use Rattle.grammar.specs.Kinds as kinds
use Rattle.sheet.specs.Line.{most_lines}

-- ------------------------------------------------------------ one call

-- by whether there is no argument, the callee is a dot, its base an `id`, and its name a method's
here_by : (o : Option Dot) (es : Exprs) (dot : Dot) (x : Name) (key : Expr) (fs : Exprs) (bare is-dot is-id method : Bool) → o ≡ cond is-dot (Some dot) None
    → es ≡ cond bare nil (more key fs) → (is-dot ≡ true → ident_of dot.base ≡ cond is-id (Some x) None)
    → is_one dot.name ("set" ∷ "get" ∷ "contains" ∷ "insert" ∷ "remove" ∷ "credit" ∷ "debit" ∷ []) ≡ method
    → keyed_here o es ≡ cond ((not bare && (is-dot && is-id)) && method) ((x, key) ∷ []) []
unfolding keyed_here
here_by o es dot x key fs true true is-id method p q r t = rw (p, q) refl
here_by o es dot x key fs true false is-id method p q r t = rw p refl
here_by o es dot x key fs false false is-id method p q r t = rw p refl
here_by o es dot x key fs false true false method p q r t = rw (p, q, keyed_here, r refl) refl
here_by o es dot x key fs false true true true p q r t = rw (p, q, keyed_here, r refl, t) refl
here_by o es dot x key fs false true true false p q r t = rw (p, q, keyed_here, r refl, t) refl

module _ {s S : List ℕ} (d : Loaded s S) {i : ℕ} (w : i < line_count S) where
  -- a call's parts
  a_call : kind_at S i ≡ kinds.call → Here S grammar.Expr i
  a_call e = record { within = w; kind = (omega arith, omega arith); after = all_le (stands d i w).held }

  some_args : (m : ℕ) → Row S grammar.Expr (suc m) (suc i) → exprs_at s m (end_at S (suc i)) ≡ cond (eqb m 0) nil (more (expr_at s (end_at S (suc i))) (exprs_at s (m - 1) (end_at S (end_at S (suc i)))))
  unfolding exprs_at take_nodes exprs_of
  some_args zero r = refl
  some_args (suc m) r = rw (ne_eqb (suc m) 0 (omega arith), let q : suc m - 1 ≡ m = omega arith in q) (exprs_next d m (end_at S (suc i)) (row_first (row_rest r)).within)

  call-is : call_at s S i ≡ cond (keyed_at s S i) ((name_at s S (suc (suc i)), expr_at s (end_at S (suc i))) ∷ []) []
  unfolding call_at keyed_at
  call-is = by_cases (eqb (kind_at S i) kinds.call) refl
    where
      by_cases : (t : Bool) → eqb (kind_at S i) kinds.call ≡ t → call_at s S i ≡ cond (keyed_at s S i) ((name_at s S (suc (suc i)), expr_at s (end_at S (suc i))) ∷ []) []
      by_cases false q = rw (call_at, keyed_at, q) refl
      by_cases true q =
          let c = call_at_lem d (a_call (eqb-true (kind_at S i) kinds.call q)) (eqb-true (kind_at S i) kinds.call q) in
          let f = row_first c.1 in
          rw (call_at, keyed_at, q)
          (here_by (dot_of (expr_at s (suc i))) (exprs_at s (call_arg_count S i) (end_at S (suc i))) _ (name_at s S (suc (suc i))) (expr_at s (end_at S (suc i))) _ (eqb (call_arg_count S i) 0) (eqb (kind_at S (suc i)) kinds.dot) (eqb (kind_at S (suc (suc i))) kinds.id) _
          (is_dot_at d f) (some_args (call_arg_count S i) c.1) (λ z. ident_at d (row_first (dot_at_lem d f (eqb-true (kind_at S (suc i)) kinds.dot z)).1)) refl)

  -- the map and the key of a keyed call
  key_at : keyed_at s S i ≡ true → Here S grammar.Expr (end_at S (suc i)) × (suc (suc i) < line_count S)
  unfolding keyed_at skip
  key_at e = by_cases (eqb (kind_at S i) kinds.call) (eqb (call_arg_count S i) 0) (eqb (kind_at S (suc i)) kinds.dot) (eqb (kind_at S (suc (suc i))) kinds.id) _ refl refl refl e
    where
      by_cases : (a b c x y : Bool) → eqb (kind_at S i) kinds.call ≡ a → eqb (call_arg_count S i) 0 ≡ b → eqb (kind_at S (suc i)) kinds.dot ≡ c → (((a && not b) && (c && x)) && y) ≡ true
          → Here S grammar.Expr (end_at S (suc i)) × (suc (suc i) < line_count S)
      by_cases true false true x y p q r z =
          let c = call_at_lem d (a_call (eqb-true (kind_at S i) kinds.call p)) (eqb-true (kind_at S i) kinds.call p) in
          let f = row_first c.1 in
          (let some : call_arg_count S i ≢ 0 = eqb-false (call_arg_count S i) 0 q in row_nth 1 (omega (arith, some)) c.1, (row_first (dot_at_lem d f (eqb-true (kind_at S (suc i)) kinds.dot r)).1).within)
      by_cases true false false x y p q r z = absurd (true≢false (sym z))
      by_cases true true c x y p q r z = absurd (true≢false (sym z))
      by_cases false b c x y p q r z = absurd (true≢false (sym z))

-- ------------------------------------------------------------ one line

-- the use of one keyed call
one_use : (m : Model) (names : List Name) (k : Keyed) → is_keyed m k.0 ≡ true → uses_of m names (k ∷ []) ≡ record { map = k.0; is_name = is_name_key names k.1; at = span k.1 } ∷ []
unfolding uses_of
one_use m names k e = rw (uses_of, e) refl

not_used : (m : Model) (names : List Name) (k : Keyed) → is_keyed m k.0 ≡ false → uses_of m names (k ∷ []) ≡ []
unfolding uses_of
not_used m names k e = rw (uses_of, e) refl

-- What `check_use` meets: b tells whether line i is a keyed call.
module _ (s S : List ℕ) (e i : ℕ) (d : Loaded s S) (h : i < line_count S) (b : Bool) (eb : b ≡ keyed_at s S i) where
  pub no_call : (ks : List (Option KeyKind)) → not b ≡ true → Judged s S ks ks (uses_at s S e i) (Ok tt)
  unfolding uses_at uses_of
  no_call ks q = none_judged s S ks _ (rw (call-is d h, ← eb, not-true b q) refl)

  module _ (nb : not b ≡ false) where
    q : b ≡ true
    q = not-false b nb

    pub key_here : (key : ℕ) → key ≡ end_at S (i + 1) → Here S grammar.Expr key
    key_here key ek = rw (ek, add-one i) (key_at d h (sym eb ∙ q)).0

    module _ (x : Name) (ex : x ≡ name_at s S (i + 2)) (r : Option ℕ) (n : MapNamed s S x r) where
      two : i + 2 ≡ suc (suc i)
      two = omega arith

      the_call : call_at s S i ≡ (x, expr_at s (end_at S (suc i))) ∷ []
      the_call = call-is d h ∙ rw (← eb, q, ex, two) refl

      pub no_use : (ks : List (Option KeyKind)) → r ≡ None → Judged s S ks ks (uses_at s S e i) (Ok tt)
      unfolding uses_at
      no_use ks z = none_judged s S ks _ (rw the_call (not_used _ _ _ (n.keyed ∙ rw z refl)))

      module _ (few : line_count S ≤ most_lines) (f : ℕ) (er : r ≡ Some f) where
        pub mark-within : f < most_lines
        mark-within = omega (arith, (n.field f er).kind.0, few)

        pub use_fits : (ks ls : List (Option KeyKind)) (key : ℕ) (v : Bool) (k : KeyKind) (a : Result Unit Refusal) → key ≡ end_at S (i + 1) → v ≡ is_name_key (names_at s e) (expr_at s key) → k ≡ key_kind_of v → Noted ks ls f k (i + 2) key a
            → Judged s S ks ls (uses_at s S e i) a
        unfolding uses_at
        use_fits ks ls key v k a ek ev em t =
            let at : end_at S (suc i) ≡ key = sym (ek ∙ ap (end_at S) (add-one i)) in
            let y : named_at s (i + 2) ≡ x = rw two (named d (key_at d h (sym eb ∙ q)).1) ∙ sym (ex ∙ ap (name_at s S) two) in
            rw (the_call, one_use (model_in s) (names_at s e) (x, expr_at s (end_at S (suc i))) (n.keyed ∙ rw er refl), at, ← ev)
            (use_judged d (record { map = x; is_name = v; at = span (expr_at s key) }) f (n.field f er) ks ls (i + 2) key a (rw em at t) mark-within y refl)

-- ------------------------------------------------------------ the lines of an entry

uses-append : (m : Model) (names : List Name) (ks ls : List Keyed) → uses_of m names (ks ++ ls) ≡ uses_of m names ks ++ uses_of m names ls
unfolding uses_of
uses-append m names [] ls = refl
uses-append m names (k ∷ ks) ls = by_cases (is_keyed m k.0) refl (uses-append m names ks ls)
  where
    by_cases : (t : Bool) → is_keyed m k.0 ≡ t → uses_of m names (ks ++ ls) ≡ uses_of m names ks ++ uses_of m names ls
        → uses_of m names (k ∷ (ks ++ ls)) ≡ uses_of m names (k ∷ ks) ++ uses_of m names ls
    by_cases true q h = rw (uses_of, q) (ap (λ us. record { map = k.0; is_name = is_name_key names k.1; at = span k.1 } ∷ us) h)
    by_cases false q h = rw (uses_of, q) h

-- the uses from line at on are left
unfoldable pub left_uses : (s S : List ℕ) → (e at end : ℕ) → List Use
left_uses s S e at end = uses_of (model_in s) (names_at s e) (calls s S at end)

-- t is what was before the entry's uses, u what is behind those that are not left
pub record Walking (t u : Seen) (e end at : ℕ) : Type 0 where
  pub sheet : u.sheet ≡ t.sheet
  pub entry : KindAt kinds.entry t.sheet.lines.now e
  pub stop : end ≡ end_at t.sheet.lines.now e
  pub passed : Passed t.sheet.bytes.now t.sheet.lines.now t.marks u.marks (entry_uses t.sheet.bytes.now e) (left_uses t.sheet.bytes.now t.sheet.lines.now e at end)

pub walk_start : (t : Seen) (e end at : ℕ) → KindAt kinds.entry t.sheet.lines.now e → end ≡ end_at t.sheet.lines.now e → at ≡ e + 1 → Walking t t e end at
unfolding entry_uses left_uses
walk_start t e end at h q a =
    let s = t.sheet.bytes.now in
    rw a
    (record {
      sheet = refl;
      entry = h;
      stop = q;
      passed = passed_start s t.sheet.lines.now _ _ _ (ap (uses_of (model_in s) (names_at s e)) (entry_calls (loaded_sheet t.sheet.loaded) h ∙ rw (← q, add-one e) refl));
    })

module _ (t u : Seen) (e end at : ℕ) (w : Walking t u e end at) where
  abbrev s : List ℕ
  s = t.sheet.bytes.now

  abbrev S : List ℕ
  S = t.sheet.lines.now

  pub walk_entry : KindAt kinds.entry u.sheet.lines.now e
  walk_entry = rw w.sheet w.entry

  pub walk_over : end ≤ at → Judged s S t.marks u.marks (entry_uses s e) (Ok tt)
  unfolding left_uses uses_of
  walk_over h = passed_over s S _ _ _ _ w.passed (ap (uses_of (model_in s) (names_at s e)) (calls_none s S at end h))

  module _ (h : at < end) where
    pub walk_here : at < line_count u.sheet.lines.now
    walk_here =
        rw w.sheet
        (let z : at < line_count S = omega (arith, h, w.stop, all_most (stands (loaded_sheet t.sheet.loaded) e w.entry.within).held (omega (arith, w.entry.within))) in z)

    turn : left_uses s S e at end ≡ uses_at s S e at ++ left_uses s S e (at + 1) end
    unfolding left_uses uses_at
    turn =
        ap (uses_of (model_in s) (names_at s e)) (calls_next s S at end h ∙ rw (add-one at) refl) ∙ uses-append (model_in s) (names_at s e) (call_at s S at) (calls s S (at + 1) end)

    module _ (v : Seen) (r : Result Unit Refusal) (j : Judged u.sheet.bytes.now u.sheet.lines.now u.marks v.marks (uses_at u.sheet.bytes.now u.sheet.lines.now e at) r) where
      here : Judged s S u.marks v.marks (uses_at s S e at) r
      here = rw w.sheet at j

      pub walk_next : v.sheet ≡ u.sheet → r ≡ Ok tt → Walking t v e end (at + 1)
      walk_next es q = record { sheet = es ∙ w.sheet; entry = w.entry; stop = w.stop; passed = passed_next s S _ _ _ _ w.passed _ _ _ r turn here q }

      pub walk_refused : (why : Refusal) → r ≡ Err why → Judged s S t.marks v.marks (entry_uses s e) (Err why)
      walk_refused why q = passed_refused s S _ _ _ _ w.passed _ _ _ r turn here why q

-- ------------------------------------------------------------ items

-- What `check_item` meets.
module _ (s S : List ℕ) (i : ℕ) where
  pub no_entry : (ks : List (Option KeyKind)) → kind_at S i ≢ kinds.entry → Judged s S ks ks (item_uses s S i) (Ok tt)
  unfolding item_uses
  no_entry ks q = none_judged s S ks _ (rw (item_uses, ne_eqb (kind_at S i) kinds.entry q) refl)

  pub an_entry : i < line_count S → kind_at S i ≡ kinds.entry → KindAt kinds.entry S i
  an_entry h q = record { within = h; kind = q }

  pub entry-judged : (ks ls : List (Option KeyKind)) (r : Result Unit Refusal) → kind_at S i ≡ kinds.entry → Judged s S ks ls (entry_uses s i) r → Judged s S ks ls (item_uses s S i) r
  unfolding item_uses
  entry-judged ks ls r q j = rw (item_uses, eq-eqb (kind_at S i) kinds.entry q) j

-- the uses of an item and those of the items behind it
item_next : {s S : List ℕ} (m : Model) → m ≡ model_in s → Loaded s S → {i : ℕ} → Here S grammar.Item i → (ts : List Node) → uses m (entries_of (node_at s i ∷ ts)) ≡ item_uses s S i ++ uses m (entries_of ts)
unfolding item_uses uses entry_uses names_at
item_next {s} {S} m em d {i} h ts = by_cases (eqb (kind_at S i) kinds.entry) refl
  where
    by_cases : (t : Bool) → eqb (kind_at S i) kinds.entry ≡ t → uses m (entries_of (node_at s i ∷ ts)) ≡ item_uses s S i ++ uses m (entries_of ts)
    by_cases true q = ap (uses m) (entries_next d h ts (eqb-true (kind_at S i) kinds.entry q)) ∙ rw (item_uses, q, ← em) refl
    by_cases false q = ap (uses m) (entries_other d h ts (eqb-false (kind_at S i) kinds.entry q)) ∙ rw (item_uses, q) refl

-- no use is seen
no_marks : {s S : List ℕ} → line_count S ≤ most_lines → KeyMarks s S [] (replicate most_lines None)
unfolding any key_kind_of is_other
no_marks {s} {S} f =
    record {
      size = length-replicate {A = Option KeyKind} most_lines None;
      tells = λ u g n. rw (get_or-replicate {A = Option KeyKind} most_lines g None None (omega (arith, n.kind.0, f))) (by_cases u.is_name);
    }
  where
    by_cases : (b : Bool) → false ≡ is_other (key_kind_of b) None
    by_cases true = refl
    by_cases false = refl

-- the items that r gives are left, which the marks of u are for
pub record Items (x : LoadedSheet) (u : Seen) (r : Records) : Type 0 where
  pub sheet : u.sheet ≡ x
  pub walk : IterWalk grammar.Item nodes_at (λ ts. Passed x.bytes.now x.lines.now (replicate most_lines None) u.marks (uses (model_in x.bytes.now) (model_in x.bytes.now).entries) (uses (model_in x.bytes.now) (entries_of ts))) x.bytes.now x.lines.now r

-- all of them are judged
all_items : {s S : List ℕ} (ls : List (Option KeyKind)) (r : Result Unit Refusal) → line_count S ≤ most_lines → Judged s S (replicate most_lines None) ls (uses (model_in s) (model_in s).entries) r → Answers (check_key_kinds (model_in s)) (done_of s r)
unfolding check_key_kinds
all_items {s} {S} ls r f j = all_judged s S (replicate most_lines None) ls _ r (no_marks f) j

pub items_start : (x : LoadedSheet) (u : Seen) (r : Records) → u.sheet ≡ x → u.marks ≡ replicate most_lines None → r.lines.now ≡ x.lines.now → r.left ≡ item_count x.lines.now 0 → r.at ≡ 1 → Items x u r
items_start x u r es em l e a =
    let d = loaded_sheet x.loaded in
    let q = items_at d in
    record {
      sheet = es;
      walk = record {
        lines = l;
        walk = rw (e, a, em) (record { loaded = d; row = q.1; known = passed_start x.bytes.now x.lines.now _ _ _ (ap (λ m. uses (model_in x.bytes.now) m.entries) q.0) });
      };
    }

module _ (x : LoadedSheet) (u : Seen) (r : Records) (w : Items x u r) where
  few : line_count x.lines.now ≤ most_lines
  few = rw w.sheet at u.few

  pub items_over : r.left ≡ 0 → Answers (check_key_kinds (model_in x.bytes.now)) (done_of x.bytes.now (Ok tt))
  unfolding uses build
  items_over h = all_items {S = x.lines.now} u.marks (Ok tt) few (passed_over x.bytes.now x.lines.now _ _ _ _ (iter_over records w.walk h) refl)

  module _ (t : Records) (i : ℕ) (h : Steps r i t) where
    pub item_here : Here x.lines.now grammar.Item i
    item_here = iter_here h w.walk

    pub item-within : i < line_count u.sheet.lines.now
    item-within = rw w.sheet item_here.within

    item_turn : (ts : List Node) → uses (model_in x.bytes.now) (entries_of (node_at x.bytes.now i ∷ ts)) ≡ item_uses x.bytes.now x.lines.now i ++ uses (model_in x.bytes.now) (entries_of ts)
    item_turn = item_next (model_in x.bytes.now) refl (loaded_sheet x.loaded) item_here

    module _ (v : Seen) (d : Result Unit Refusal) (j : Judged u.sheet.bytes.now u.sheet.lines.now u.marks v.marks (item_uses u.sheet.bytes.now u.sheet.lines.now i) d) where
      judged : Judged x.bytes.now x.lines.now u.marks v.marks (item_uses x.bytes.now x.lines.now i) d
      judged = rw w.sheet at j

      pub items_next : v.sheet ≡ u.sheet → d ≡ Ok tt → Items x v t
      items_next es q =
          record {
            sheet = es ∙ w.sheet;
            walk = iter_onward h records w.walk (λ ts z. passed_next x.bytes.now x.lines.now _ _ _ _ z _ _ _ d (item_turn ts) judged q);
          }

      pub items_refused : (why : Refusal) → d ≡ Err why → Answers (check_key_kinds (model_in x.bytes.now)) (done_of x.bytes.now (Err why))
      items_refused why q =
          iter_found h records w.walk
          (λ ts z. all_items {S = x.lines.now} v.marks (Err why) few (passed_refused x.bytes.now x.lines.now _ _ _ _ z _ _ _ d (item_turn ts) judged why q))
