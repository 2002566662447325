-- The bounds of state fields over loaded lines. Assumes nothing.
use mathlib.Core.Logic.{◌≢◌}
use mathlib.Core.Path.{◌≡◌, refl, sym, ap, ◌∙◌}
use mathlib.Core.List.{List, [], ◌∷◌, ◌++◌, map}
use mathlib.Core.Bool.{Bool, true, false, true≢false, not}
use Prim.Native.Nat.{ℕ, suc, ◌+◌, ◌<◌}
use native.Mathlib.Numerals.{add-one}
use native.Mathlib.Omega.{arith}
use mir.Syntax.{w64}
use mir.Val.{Fits}
use lib.ListN.{length}
use Rattle.std.specs.Option.{option_or}
use Rattle.std.specs.Prelude.{Option, Some, None, is_some, Result, Ok, Err, option_map}
use Rattle.grammar.specs.Grammar as grammar
use Rattle.sheet.specs.Scratch.{kind_at, name_at, end_at, line_count, field_count, item_count}
use Rattle.sheet.specs.Records.{Steps}
use Rattle.sheet.specs.declared.records.Records.{Records}
use Rattle.rules.specs.Text.{Name, Piece, last_named}
use Rattle.rules.specs.Ast.{Field, field_of, item_of}
use Rattle.rules.specs.Asking.{Res, ok, Rule, ◌>>=◌, ◌>>◌, expect, provided, for_each}
use Rattle.rules.specs.Declarations.{guardian_fits, guardian_bound}
use Rattle.rules.specs.Model.{joined, build, field_named, values}
use Rattle.rules.specs.Standing.{node_name, node_at, nodes_at, type_at, field_at, model_in, Loaded, Here, Row}
use Rattle.rules.proofs.Lookups.{or_none, last_append}
use Rattle.rules.proofs.Records.{field_at_lem}
use Rattle.rules.proofs.Rows.{records, list_none, row_over, IterWalk, iter_start}
use Rattle.rules.proofs.Standing.{row_first, row_rest}
use Rattle.refusals.specs.Answers.{Answers}
use Rattle.lookups.specs.Found.{found_field, item_fields, model_at, Stretch, Last, FieldsNamed}
use Rattle.refusals.specs.Refusal.{done_of}
use Rattle.refusals.specs.declared.refusal.Refusal.{Refusal}
use Rattle.refusals.proofs.Answers.{gives, then_fine, then_refused}
use Rattle.lookups.proofs.Fields.{last_map, as_field, field-name, all_kind, items_at, item_here, not_state, of_state}
use Rattle.declarations.specs.Bounds.{bound_if_last, bounds_of, fields_left, FieldsLeft, FieldBefore, ItemBefore}
use Rattle.grammar.specs.Kinds as kinds

pub next_fits : (S : List ℕ) (σ : grammar.Sort) (m i : ℕ) → Row S σ (suc m) i → length S < 18446744073709551616 → Fits w64 (i + 1)
next_fits S σ m i r h = record { fits = omega (arith, (row_first r).within) }

-- ------------------------------------------------------------ a later field of the name

some_or_lem : {A : Type 0} (o : Option A) (a : A) → is_some (option_or o (Some a)) ≡ true
some_or_lem None a = refl
some_or_lem (Some b) a = refl

pub left_fields : (S : List ℕ) (m i : ℕ) → Row S grammar.Field m i → Stretch S m i
left_fields S m i h = record { sort = grammar.Field; row = h }

module _ (s S : List ℕ) (x : Name) (u v : Records) (d : Loaded s S) (h : FieldsLeft S u v) where
  module _ (f : Option ℕ) (l : Last s S kinds.field x u.left u.at f) where
    in_item : last_named (λ y. y.name) x (map field_of (nodes_at s u.left u.at)) ≡ found_field s f
    in_item =
        last_map field_of (λ y. y.name) node_name x field-name (nodes_at s u.left u.at)
        ∙ sym (as_field s f ∙ ap (option_map field_of) (l.found ∙ ap (last_named node_name x) (all_kind kinds.field (λ a b. omega (arith, b.kind.0, b.kind.1)) d h.fields)))

    by_search : last_named (λ y. y.name) x (fields_left s u v) ≡ option_or (field_named (model_at s v.left v.at) x) (found_field s f)
    unfolding fields_left field_named
    by_search =
        sym (or_none _)
        ∙ last_append (λ y. y.name) x (map field_of (nodes_at s u.left u.at)) (model_at s v.left v.at).fields None
        ∙ rw (or_none, in_item) refl

    pub later_here : is_some f ≡ true → true ≡ is_some (last_named (λ y. y.name) x (fields_left s u v))
    unfolding found_field
    later_here e = rw by_search (by_cases f e)
      where
        by_cases : (f : Option ℕ) → is_some f ≡ true → true ≡ is_some (option_or (field_named (model_at s v.left v.at) x) (found_field s f))
        by_cases (Some k) e = sym (some_or_lem (field_named (model_at s v.left v.at) x) (field_at s k))
        by_cases None e = absurd (true≢false (sym e))

    module _ (e : is_some f ≡ false) (r : Option ℕ) (t : FieldsNamed s S x v.left v.at r) where
      pub later_there : (b : Bool) → b ≡ is_some r → b ≡ is_some (last_named (λ y. y.name) x (fields_left s u v))
      unfolding found_field
      later_there b q = q ∙ rw (by_search, ← t.found) (by_cases f r e)
        where
          by_cases : (f r : Option ℕ) → is_some f ≡ false → is_some r ≡ is_some (option_or (found_field s r) (found_field s f))
          by_cases (Some k) r e = absurd (true≢false e)
          by_cases None (Some k) e = refl
          by_cases None None e = refl

-- ------------------------------------------------------------ one field

provided_fine : (b : Bool) (p : Rule Unit) → Answers p (ok tt) → Answers (provided b p) (ok tt)
unfolding provided
provided_fine true p a = a
provided_fine false p a = gives tt

pub field_rest : (S : List ℕ) (i : ℕ) (u v : Records) → FieldBefore S i u v → FieldsLeft S u v
field_rest S i u v b = record { fields = rw b.behind (row_rest b.fields); items = b.items }

module _ (s S : List ℕ) (i : ℕ) (u v : Records) (d : Loaded s S) (b : FieldBefore S i u v) where
  abbrev here : Here S grammar.Field i
  here = row_first b.fields

  of_kind_lem : kind_at S i ≡ kinds.field
  of_kind_lem = omega (arith, here.kind.0, here.kind.1)

  field_type : Here S grammar.Ty (suc i)
  field_type = (field_at_lem d here.within of_kind_lem).1

  pub field_typed : Here S grammar.Ty (i + 1)
  field_typed = rw (add-one i) field_type

  module _ (r : Result Unit Refusal) (a : Answers (guardian_bound (type_at s (i + 1))) (done_of s r)) where
    abbrev later : List Field
    later = fields_left s u v

    own : Answers (guardian_bound (field_at s i).ty) (done_of s r)
    own = rw ((field_at_lem d here.within of_kind_lem).0, ← add-one i) a

    pub field_fine : r ≡ Ok tt → Answers (bound_if_last (field_at s i) later) (done_of s (Ok tt))
    unfolding bound_if_last done_of
    field_fine e = provided_fine (not (is_some (last_named (λ g. g.name) (field_at s i).name later))) (guardian_bound (field_at s i).ty) (rw e at own)

    module _ (why : Refusal) (e : r ≡ Err why) (x : Name) (c : Bool) (y : x ≡ name_at s S i) (q : c ≡ is_some (last_named (λ g. g.name) x later)) where
      told : is_some (last_named (λ g. g.name) (field_at s i).name later) ≡ c
      told = rw (q, (field_at_lem d here.within of_kind_lem).0, y) refl

      pub field_passed : c ≡ true → Answers (bound_if_last (field_at s i) later) (done_of s (Ok tt))
      unfolding bound_if_last provided done_of
      field_passed t = rw (bound_if_last, told, t) (gives tt)

      pub field-refused : c ≡ false → Answers (bound_if_last (field_at s i) later) (done_of s (Err why))
      unfolding bound_if_last provided
      field-refused t = rw (bound_if_last, told, t, ← e) own

-- ------------------------------------------------------------ fields one behind another

abbrev pub bound : Field → Rule Unit
bound f = guardian_bound f.ty

bound_then : (f : Field) (fs : List Field) (p q : Rule Unit) → ((bound_if_last f fs >> p) >> q) ≡ (bound_if_last f fs >> (p >> q))
unfolding bound_if_last guardian_bound provided expect ◌>>◌ ◌>>=◌
bound_then f fs p q = by_cases (not (is_some (last_named (λ g. g.name) f.name fs))) (guardian_fits f.ty) _ _
  where
    by_cases : (a b : Bool) (at : ℕ) (ps : List Piece) → ((provided a (expect b 20 at ps) >> p) >> q) ≡ (provided a (expect b 20 at ps) >> (p >> q))
    by_cases true true at ps = refl
    by_cases true false at ps = refl
    by_cases false b at ps = refl

first_bound : (f : Field) (fs : List Field) → for_each (values (f ∷ fs)) bound ≡ (bound_if_last f fs >> for_each (values fs) bound)
unfolding bound_if_last values for_each provided ◌>>◌ ◌>>=◌
first_bound f fs = by_cases (last_named (λ g. g.name) f.name fs)
  where
    by_cases : (o : Option Field) → for_each (elim o as (λ _. List Field) [ Some g ↦ values fs | None ↦ f ∷ values fs ]) bound ≡ (provided (not (is_some o)) (bound f) >> for_each (values fs) bound)
    by_cases (Some g) = refl
    by_cases None = refl

-- the walk over fields is the walk over some, then over the later ones
walk : (fs gs : List Field) → for_each (values (fs ++ gs)) bound ≡ (bounds_of fs gs >> for_each (values gs) bound)
unfolding bounds_of ◌>>◌ ◌>>=◌
walk [] gs = refl
walk (f ∷ fs) gs =
    first_bound f (fs ++ gs)
    ∙ ap (λ p. bound_if_last f (fs ++ gs) >> p) (walk fs gs)
    ∙ sym (bound_then f (fs ++ gs) (bounds_of fs gs) (for_each (values gs) bound))

-- where the next of the records stands
behind_is : {S : List ℕ} {r t : Records} {i : ℕ} → r.lines.now ≡ S → Steps r i t → t.at ≡ end_at S i
behind_is e h = h.behind ∙ rw (e, h.here) refl

-- to answer p it is enough to answer q
pub record Enough (p q : Rule Unit) : Type 0 where
  pub answer : (r : Res Unit) → Answers q r → Answers p r

-- ------------------------------------------------------------ the fields of an item

-- what is left of the bounds of the item's fields: those of the fields that r goes over
pub record BoundsGoing (s S : List ℕ) (item : ℕ) (q r : Records) : Type 0 where
  pub loaded : Loaded s S
  pub lines : r.lines.now ≡ S
  pub fields : FieldsLeft S r q
  pub rest : Enough (bounds_of (map field_of (item_fields (node_at s item))) (model_at s q.left q.at).fields) (bounds_of (map field_of (nodes_at s r.left r.at)) (model_at s q.left q.at).fields)

module _ (s S : List ℕ) (item : ℕ) (q : Records) (d : Loaded s S) (b : ItemBefore S item q) where
  within : item < line_count S
  within = (row_first b.items).within

  pub no_bounds : kind_at S item ≢ kinds.state → Answers (bounds_of (map field_of (item_fields (node_at s item))) (model_at s q.left q.at).fields) (done_of s (Ok tt))
  unfolding bounds_of done_of
  no_bounds f = rw (not_state s S item d within f) (gives tt)

  pub bounds_start : (left : ℕ) (r : Records) → kind_at S item ≡ kinds.state → left ≡ field_count S item → r.at ≡ item + 1 → r.left ≡ left → r.lines.now ≡ S → BoundsGoing s S item q r
  bounds_start left r f c y l n =
      let o = of_state s S item d within r.left r.at f (l ∙ c) y in
      record {
        loaded = d;
        lines = n;
        fields = record { fields = o.1; items = rw b.behind (row_rest b.items) };
        rest = record { answer = λ k a. rw o.0 a };
      }

module _ (s S : List ℕ) (item : ℕ) (q r : Records) (g : BoundsGoing s S item q r) where
  abbrev its : Rule Unit
  its = bounds_of (map field_of (item_fields (node_at s item))) (model_at s q.left q.at).fields

  pub bounds_over : r.left ≡ 0 → Answers its (done_of s (Ok tt))
  unfolding bounds_of done_of
  bounds_over e = g.rest.answer (ok tt) (rw (list_none records s r.left r.at (omega (arith, e))) (gives tt))

  module _ (i : ℕ) (t : Records) (h : Steps r i t) where
    pub bounds_field : FieldBefore S i t q
    bounds_field = record { fields = rw (← h.left, h.here) g.fields.fields; items = g.fields.items; behind = behind_is g.lines h }

    module _ (d : Result Unit Refusal) (a : Answers (bound_if_last (field_at s i) (fields_left s t q)) (done_of s d)) where
      abbrev others : Rule Unit
      others = bounds_of (map field_of (nodes_at s t.left t.at)) (model_at s q.left q.at).fields

      split : bounds_of (map field_of (nodes_at s r.left r.at)) (model_at s q.left q.at).fields ≡ (bound_if_last (field_at s i) (fields_left s t q) >> others)
      unfolding bounds_of fields_left field_at
      split =
          rw (h.left, ← h.here, behind_is g.lines h)
          (ap (λ ts. bounds_of (map field_of ts) (model_at s q.left q.at).fields) (records.first g.loaded t.left (row_first bounds_field.fields).within))

      pub bounds_refused : (why : Refusal) → d ≡ Err why → Answers its (done_of s (Err why))
      unfolding done_of
      bounds_refused why e = g.rest.answer (done_of s (Err why)) (rw split (then_refused _ others _ (rw e at a)))

      pub bounds_turn : d ≡ Ok tt → BoundsGoing s S item q t
      unfolding done_of
      bounds_turn e =
          record {
            loaded = g.loaded;
            lines = h.lines ∙ g.lines;
            fields = field_rest S i t q bounds_field;
            rest = record { answer = λ y b. g.rest.answer y (rw split (then_fine _ others tt y (rw e at a) b)) };
          }

-- ------------------------------------------------------------ all items

-- what is left of the walk: that over the fields of the items that r goes over
abbrev pub WalkGoing : (s S : List ℕ) → Records → Type 0
WalkGoing s S r =
    IterWalk grammar.Item nodes_at (λ ts. Enough (for_each (values (model_in s).fields) bound) (for_each (values (build (map item_of ts)).fields) bound)) s S r

pub walk_start : (s S : List ℕ) (left : ℕ) (r : Records) → Loaded s S → left ≡ item_count S 0 → r.lines.now ≡ S → r.left ≡ left → r.at ≡ 1 → WalkGoing s S r
walk_start s S left r d e n p q =
    let i = items_at d in
    iter_start _ _ _ s S (item_count S 0) 1 r (record { loaded = d; row = i.1; known = record { answer = λ d a. rw i.0 a } }) n (p ∙ e) q

module _ (s S : List ℕ) (r : Records) (g : WalkGoing s S r) where
  pub walk_over : r.left ≡ 0 → Answers (for_each (values (model_in s).fields) bound) (done_of s (Ok tt))
  unfolding build values for_each done_of
  walk_over q = (row_over records g.walk (omega (arith, q))).answer (ok tt) (gives tt)

  module _ (i : ℕ) (t : Records) (h : Steps r i t) where
    pub walk_item : ItemBefore S i t
    walk_item = record { items = rw (← h.left, h.here) g.walk.row; behind = behind_is g.lines h }

    module _ (d : Result Unit Refusal) (a : Answers (bounds_of (map field_of (item_fields (node_at s i))) (model_at s t.left t.at).fields) (done_of s d)) where
      abbrev behind : Rule Unit
      behind = for_each (values (model_at s t.left t.at).fields) bound

      item_first : (model_at s r.left r.at).fields ≡ map field_of (item_fields (node_at s i)) ++ (model_at s t.left t.at).fields
      unfolding model_at build joined
      item_first =
          rw (h.left, ← h.here, behind_is g.lines h)
          (ap (λ ts. (build (map item_of ts)).fields) (records.first g.walk.loaded t.left (row_first walk_item.items).within)
          ∙ rw (item_here g.walk.loaded (row_first walk_item.items)) refl)

      parted : for_each (values (model_at s r.left r.at).fields) bound ≡ (bounds_of (map field_of (item_fields (node_at s i))) (model_at s t.left t.at).fields >> behind)
      parted = ap (λ fs. for_each (values fs) bound) item_first ∙ walk (map field_of (item_fields (node_at s i))) (model_at s t.left t.at).fields

      pub walk_refused : (why : Refusal) → d ≡ Err why → Answers (for_each (values (model_in s).fields) bound) (done_of s (Err why))
      unfolding done_of model_at
      walk_refused why e = g.walk.known.answer (done_of s (Err why)) (rw parted (then_refused _ behind _ (rw e at a)))

      pub walk_turn : d ≡ Ok tt → WalkGoing s S t
      unfolding done_of model_at
      walk_turn e =
          record {
            lines = h.lines ∙ g.lines;
            walk =
                record {
                  loaded = g.walk.loaded;
                  row = rw (behind_is g.lines h) (row_rest walk_item.items);
                  known = record { answer = λ y b. g.walk.known.answer y (rw parted (then_fine _ behind tt y (rw e at a) b)) };
                };
          }
