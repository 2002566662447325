-- Lines that are read elsewhere in a sheet, or with other texts of `int` records, say the same records. Assumes nothing.
use mathlib.Core.Path.{◌≡◌, refl, sym, ap, ◌∙◌}
use mathlib.Core.Logic.{inl, inr}
use mathlib.Core.List.Forall₂.{cons as cons₂}
use mathlib.Core.List.Forall₂.{nil as nil₂}
use mathlib.Core.List.{List, [], ◌∷◌, ◌++◌, append_assoc, append-nil, Forall₂}
use mathlib.Core.Bool.{Bool, true, false, cond}
use Prim.Native.Nat.{ℕ, suc, ◌+◌}
use native.Mathlib.Omega.{arith}
use lib.Dec.{eqb, ltb}
use lib.ListN.{length}
use Rattle.text.specs.Text.{bytes, same}
use Rattle.text.specs.Word.{index_in}
use Rattle.text.specs.Field.{Number, is_text, number_of}
use Rattle.std.specs.Prelude.{Some, None, Option}
use Rattle.grammar.specs.Grammar.{Sort, Contract, Item, Field, Param, Ty, Arg, Clause, Stmt, Expr, Rule, span, name, text, assign_op, un_op, bin_op, count, flag, record_of, no_kind, kind_for}
use Rattle.sheet.specs.Line.{Line, begun, with_span, with_op, with_name, with_parts, when, on_number, read_field, and_then, read_fields, Read, good, bad, or_ten, read_as, fields_of, read_pieces, read_line, most_span}
use Rattle.sheet.specs.Load.{LoadResult, lines, sorts, due, scan}
use Rattle.sheet.specs.Same.{SameRecord, SameLine, SameButText, LineSameButText, same_bytes, int_texts}
use Rattle.sheet.proofs.Holds.{judged_lines, judged_shallow, judged_good}
use Rattle.sheet.proofs.Paired.{Opt, o_none, o_some}
use Rattle.grammar.specs.Kinds as kinds

-- ------------------------------------------------------------ one line, elsewhere

pub data SameRead (Free : Type 0) : Read → Read → Type 0 where
  same_good : {x y : Line} → SameRecord Free x y → SameRead Free (good x) (good y)
  same_bad : {n : ℕ} → SameRead Free (bad n) (bad n)

module _ {Free : Type 0} where
  when-same : {x y : Line} (b : Bool) → SameRecord Free x y → Opt (SameRecord Free) (when b x) (when b y)
  unfolding when
  when-same true h = o_some h
  when-same false h = o_none

  number_same : (v : Number) (f g : ℕ → Line) → ((n : ℕ) → SameRecord Free (f n) (g n)) → Opt (SameRecord Free) (on_number v f) (on_number v g)
  unfolding on_number
  number_same (Some v) f g h = o_some (h v)
  number_same None f g h = o_none

  module _ {l k : Line} (h : SameRecord Free l k) where
    span_same : (v : ℕ) → SameRecord Free (with_span l v) (with_span k v)
    span_same v = record { kind = h.kind; op = h.op; spans = ap (λ s. s ++ (v ∷ [])) h.spans; parts = h.parts; name = h.name }

    parts_same : (n : ℕ) (s : Sort) → SameRecord Free (with_parts l n s) (with_parts k n s)
    parts_same n s = record { kind = h.kind; op = h.op; spans = h.spans; parts = ap (λ p. p ++ ((n, s) ∷ [])) h.parts; name = h.name }

    name-same : (a b : ℕ) (f : List ℕ) → SameRecord Free (with_name l a f) (with_name k b f)
    name-same a b f = record { kind = h.kind; op = h.op; spans = h.spans; parts = h.parts; name = inl refl }

    op_same : (o : ℕ) → SameRecord Free (with_op l o) (with_op k o)
    op_same o = record { kind = h.kind; op = refl; spans = h.spans; parts = h.parts; name = h.name }

    field-same : (r : Rule) (a b : ℕ) (f : List ℕ) → Opt (SameRecord Free) (read_field r a f l) (read_field r b f k)
    unfolding read_field
    field-same span a b f = number_same _ _ _ span_same
    field-same name a b f = when-same _ (name-same a b f)
    field-same text a b f = when-same _ (name-same a b f)
    field-same (count s) a b f = number_same _ _ _ (λ n. parts_same n s)
    field-same (flag s) a b f = number_same _ _ _ (λ n. parts_same n s)
    field-same assign_op a b f = when-same _ (op_same _)
    field-same un_op a b f = when-same _ (op_same _)
    field-same bin_op a b f = when-same _ (op_same _)

  then_same : {o u : Option Line} {f g : Line → Option Line} → Opt (SameRecord Free) o u → ((x y : Line) → SameRecord Free x y → Opt (SameRecord Free) (f x) (g y))
      → Opt (SameRecord Free) (and_then o f) (and_then u g)
  unfolding and_then
  then_same o_none k = o_none
  then_same (o_some h) k = k _ _ h

  fields-same : (rs : List Rule) (a b : ℕ) (fs : List (List ℕ)) {l k : Line} → SameRecord Free l k → Opt (SameRecord Free) (read_fields rs a fs l) (read_fields rs b fs k)
  unfolding read_fields
  fields-same [] a b fs h = o_some h
  fields-same (r ∷ rs) a b [] h = o_none
  fields-same (r ∷ rs) a b (f ∷ fs) h = then_same (field-same h r a b f) (λ x y q. fields-same rs _ _ fs q)

  ten_same : {o u : Option Line} → Opt (SameRecord Free) o u → SameRead Free (or_ten o) (or_ten u)
  unfolding or_ten
  ten_same o_none = same_bad
  ten_same (o_some h) = same_good h

  either_same : {o u p q : Read} (b : Bool) → SameRead Free o u → SameRead Free p q → SameRead Free (cond b o p) (cond b u q)
  either_same true h k = h
  either_same false h k = k

  -- a line of the same bytes, wherever it starts
  line_same : (s : Sort) (at to : ℕ) (l : List ℕ) → SameRead Free (read_line s at l) (read_line s to l)
  unfolding read_line read_pieces read_as
  line_same s at to l = by_cases (fields_of l)
    where
      by_cases : (fs : List (List ℕ)) → SameRead Free (read_pieces s at fs) (read_pieces s to fs)
      by_cases [] = same_bad
      by_cases (w ∷ fs) =
          either_same (eqb (kind_for s w) no_kind) same_bad
          (either_same (eqb (length fs) (length (record_of (kind_for s w)).rules))
          (ten_same (fields-same (record_of (kind_for s w)).rules _ _ fs (record { kind = refl; op = refl; spans = refl; parts = refl; name = inl refl }))) same_bad)

  good_same : {r q : Read} {x : Line} → SameRead Free r q → r ≡ good x → (y : Line) × (q ≡ good y) × SameRecord Free x y
  good_same {x = w} (same_good {x = x} {y = y} h) e = (y, refl, let z : x ≡ w = cc in rw z at h)
  good_same same_bad e = absurd (let z : ◌≡◌ {A = ℕ} 0 1 = cc in omega arith)

-- ------------------------------------------------------------ many lines, elsewhere

-- the lines xs, read elsewhere
pub record Reread (xs : List Line) (r : LoadResult) : Type 0 where
  pub ys : List Line
  pub read : r ≡ lines ys
  pub same : Forall₂ SameLine xs ys

-- the lines L where the records ds are due, read elsewhere, before the lines K where the records es are due
pub scan-joined : (L K : List (List ℕ)) (ds es : List (ℕ × Sort)) (i at j to : ℕ) (xs zs : List Line) → scan i at ds L ≡ lines xs
    → ((j to : ℕ) → Reread zs (scan j to es K)) → Reread (xs ++ zs) (scan j to (ds ++ es) (L ++ K))
unfolding scan
scan-joined [] K [] es i at j to xs zs e k = let n : xs ≡ [] = cc in rw n (k j to)
scan-joined [] K (d ∷ ds) es i at j to xs zs e k = absurd (let z : ◌≡◌ {A = ℕ} 0 1 = cc in omega arith)
scan-joined (l ∷ L) K [] es i at j to xs zs e k = absurd (let z : ◌≡◌ {A = ℕ} 0 1 = cc in omega arith)
scan-joined (l ∷ L) K (d ∷ ds) es i at j to xs zs e k =
    let deep = ltb 64 d.0 in
    let from : Line → List (ℕ × Sort) = λ x. due (suc d.0) (sorts x.parts) ++ ds in
    let f : Line → LoadResult = λ x. scan (suc i) (at + length l + 1) (from x) L in
    let r = judged_lines deep (read_line d.1 at l) i f xs e in
    let g = good_same {Free = ⊥} (line_same d.1 at to l) r.2 in
    let y = g.0 in
    let q : scan (suc i) (at + length l + 1) (from y) L ≡ lines r.1 = rw g.2.parts at r.3 in
    let t = scan-joined L K (from y) es _ _ (suc j) (to + length l + 1) r.1 zs q k in
    let u : scan (suc j) (to + length l + 1) (due (suc d.0) (sorts y.parts) ++ (ds ++ es)) (L ++ K) ≡ lines t.ys = rw append_assoc at t.read in
    rw r.4
    (record {
      ys = y ∷ t.ys;
      read = judged_good j deep (read_line d.1 to l) (λ x. scan (suc j) (to + length l + 1) (due (suc d.0) (sorts x.parts) ++ (ds ++ es)) (L ++ K)) y t.ys (judged_shallow i deep (read_line d.1 at l) f xs e) g.1 u;
      same = cons₂ g.2 t.same;
    })

pub scan_moved : (L : List (List ℕ)) (ds : List (ℕ × Sort)) (i at j to : ℕ) (xs : List Line) → scan i at ds L ≡ lines xs → Reread xs (scan j to ds L)
unfolding scan
scan_moved L ds i at j to xs e =
    rw (append-nil xs, append-nil ds, append-nil L) at (scan-joined L [] ds [] i at j to xs [] e (λ j to. record { ys = []; read = refl; same = nil₂ }))

-- ------------------------------------------------------------ with other texts

-- what an `int` line says
record SaysInt (v : Number) (x : Line) : Type 0 where
  kind : x.kind ≡ kinds.int
  op : x.op ≡ 0
  parts : x.parts ≡ []
  spans : (n : ℕ) × (v ≡ Some n) × (x.spans ≡ n ∷ [])

int_says : (s : Sort) (at : ℕ) (sp t : List ℕ) (x : Line) → read_pieces s at (bytes "int" ∷ sp ∷ t ∷ []) ≡ good x → SaysInt (number_of most_span sp) x
unfolding read_pieces read_as kind_for index_in same read_fields read_field or_ten and_then on_number when
int_says Contract at sp t x e = absurd (let z : ◌≡◌ {A = ℕ} 0 1 = cc in omega arith)
int_says Item at sp t x e = absurd (let z : ◌≡◌ {A = ℕ} 0 1 = cc in omega arith)
int_says Field at sp t x e = absurd (let z : ◌≡◌ {A = ℕ} 0 1 = cc in omega arith)
int_says Param at sp t x e = absurd (let z : ◌≡◌ {A = ℕ} 0 1 = cc in omega arith)
int_says Ty at sp t x e = absurd (let z : ◌≡◌ {A = ℕ} 0 1 = cc in omega arith)
int_says Arg at sp t x e = absurd (let z : ◌≡◌ {A = ℕ} 0 1 = cc in omega arith)
int_says Clause at sp t x e = absurd (let z : ◌≡◌ {A = ℕ} 0 1 = cc in omega arith)
int_says Stmt at sp t x e = absurd (let z : ◌≡◌ {A = ℕ} 0 1 = cc in omega arith)
int_says Expr at sp t x e = by_cases (number_of most_span sp) (is_text t) e
  where
    from : Line → Number → Bool → ℕ → Read
    from l v b a = or_ten (and_then (on_number v (with_span l)) (λ l. and_then (when b (with_name l a t)) (λ m. Some m)))

    by_cases : (v : Number) (b : Bool) → from (begun kinds.int at) v b (at + 3 + 1 + length sp + 1) ≡ good x → SaysInt v x
    by_cases (Some n) true e = let q : with_name (with_span (begun kinds.int at) n) (at + 3 + 1 + length sp + 1) t ≡ x = cc in rw (← q) (record { kind = refl; op = refl; parts = refl; spans = (n, refl, refl) })
    by_cases (Some n) false e = absurd (let z : ◌≡◌ {A = ℕ} 0 1 = cc in omega arith)
    by_cases None b e = absurd (let z : ◌≡◌ {A = ℕ} 0 1 = cc in omega arith)

ints_but_text : {v : Number} {x y : Line} → SaysInt v x → SaysInt v y → SameButText x y
ints_but_text h k =
    let p : h.spans.0 ≡ k.spans.0 = cc (h.spans.1, k.spans.1) in
    record {
      kind = h.kind ∙ sym k.kind;
      op = h.op ∙ sym k.op;
      spans = h.spans.2 ∙ ap (λ n. n ∷ []) p ∙ sym k.spans.2;
      parts = h.parts ∙ sym k.parts;
      name = inr (tt, h.kind);
    }

read_but_text : {l k : List ℕ} {x y : Line} (s : Sort) (at to : ℕ) → LineSameButText l k → read_line s at l ≡ good x → read_line s to k ≡ good y → SameButText x y
unfolding read_line
read_but_text {l} {y = y} s at to same_bytes e f = let g = good_same {Free = Unit} (line_same s at to l) e in let q : g.0 ≡ y = cc (g.1, f) in rw q at g.2
read_but_text {x = x} {y = y} s at to (int_texts sp t u p q) e f = ints_but_text (int_says s at sp t x (rw p at e)) (int_says s to sp u y (rw q at f))

pub scan_but_text : (L K : List (List ℕ)) → Forall₂ LineSameButText L K → (ds : List (ℕ × Sort)) (i at j to : ℕ) (xs ys : List Line)
    → scan i at ds L ≡ lines xs → scan j to ds K ≡ lines ys → Forall₂ SameButText xs ys
unfolding scan
scan_but_text L K nil₂ [] i at j to xs ys e f = let p : xs ≡ [] = cc in let q : ys ≡ [] = cc in rw (p, q) nil₂
scan_but_text L K nil₂ (d ∷ ds) i at j to xs ys e f = absurd (let z : ◌≡◌ {A = ℕ} 0 1 = cc e in omega arith)
scan_but_text L K (cons₂ h r) [] i at j to xs ys e f = absurd (let z : ◌≡◌ {A = ℕ} 0 1 = cc e in omega arith)
scan_but_text L K (cons₂ {l₁ = L'} {l₂ = K'} h r) (d ∷ ds) i at j to xs ys e f =
    let p = judged_lines _ _ i _ xs e in
    let q = judged_lines _ _ j _ ys f in
    let a = read_but_text d.1 at to h p.2 q.2 in
    rw (p.4, q.4) (cons₂ a (scan_but_text L' K' r (due (suc d.0) (sorts q.0.parts) ++ ds) _ _ _ _ p.1 q.1 (rw a.parts at p.3) q.3))
