-- Every message has at most 16,384 bytes. Assumes nothing.
use mathlib.Core.Path.{◌≡◌, refl}
use mathlib.Core.List.{List, [], ◌∷◌, ◌++◌}
use mathlib.Core.Bool.{Bool, true, false}
use Prim.Native.Nat.{ℕ, zero, suc, ◌+◌, ◌-◌, ◌*◌, ◌/◌, ◌%◌, ◌≤◌}
use native.Mathlib.Omega.{arith}
use lib.Dec.{eqb}
use lib.ListN.{length, get_or, length-append}
use borrow.Author.Tests.{eqb-true, eqb-false}
use Rattle.text.specs.Text.{bytes}
use Rattle.sheet.specs.Held.{Held, HeldAll, no_tree, tree, held, Each, no_line, one, Every, every, EveryOf, no_more, and_more}
use Rattle.sheet.specs.Line.{Line, most_bytes, most_lines}
use Rattle.sheet.specs.Load.{lines_of}
use Rattle.sheet.specs.Scratch.{kind_at, end_at, line_count}
use Rattle.sheet.specs.Tree.{Node, node, Nodes}
use Rattle.sheet.proofs.Bytes.{bytes_upto, lines_most, Takes, lines_take}
use Rattle.sheet.proofs.Loaded.{every_line}
use Rattle.rules.specs.Text.{Piece, lit, raw, dec, digits, render}
use Rattle.rules.specs.Ast.{Type', type_name, arg_of, args_of, type_of, field_of, param_of, nodes, blank_node, Arg, Args, anil, amore}
use Rattle.rules.specs.Declarations.{type_text, arg_text, args_text}
use Rattle.rules.specs.declared.ty.Ty.{Ty}
use Rattle.rules.specs.declared.ty.Ty.TheVariants.{Int, Bool as Boolean, Address, Asset, Word64, Name as TName, Time, Str, Collection, Unknown}
use Rattle.rules.specs.Types.{describe}
use Rattle.rules.specs.Verdict.{longest}
use Rattle.rules.specs.Standing.{node_name, node_at, type_at, param_at, field_at, named_at, Loaded}
use Rattle.rules.proofs.Places.{there_or_not, is_there, dot_there, not_dot_at}
use Rattle.rules.proofs.Records.{named}
use Rattle.rules.proofs.Standing.{Stands, stands, beyond}
use Rattle.refusals.specs.Refusal.{dot_at, refusal_of}
use Rattle.refusals.specs.declared.refusal.Refusal.{Refusal}
use Rattle.refusals.specs.declared.refusal.Refusal.TheVariants.{NameStored, Arity, OnlyTypes, InnerType, UnknownType, NoArguments, Digest, Default, Guardian, Predicate, ReachesField, ReachesValues, ReachesEvent, CollectionLocal, AssetSlot, NameIntoAddress, WrappingIntoNarrow, LiteralIntoNarrow, SlotMismatch, Recipient, Receiver, KeyedOp, Amount, NameNotParam, NameWanted, Holds, Not, Neg, Logical, Arithmetic, Ordering, NamesCompared, Compared, EmitField, Dropped, Overflow, KeyKinds}
use Rattle.writing.proofs.Texts.{Named, lines_named, every_at}
use Rattle.grammar.specs.Kinds as kinds
use Rattle.writing.specs.Types.{before}

-- ------------------------------------------------------------ pieces

-- the most bytes of a piece
unfoldable weight : Piece → ℕ
weight (lit w) = length (bytes w)
weight (raw n) = length n
weight (dec n) = 39

unfoldable weights : List Piece → ℕ
weights [] = 0
weights (p ∷ ps) = weight p + weights ps

weights_append : (ps qs : List Piece) → weights (ps ++ qs) ≡ weights ps + weights qs
unfolding weights
weights_append [] qs = omega arith
weights_append (p ∷ ps) qs = omega (arith, weights_append ps qs)

digits_few : (k n : ℕ) → length (digits k n) ≤ k
unfolding digits
digits_few zero n = omega arith
digits_few (suc k) n = by_cases (eqb (n / 10) 0) (digits_few k (n / 10))
  where
    by_cases : (t : Bool) → length (digits k (n / 10)) ≤ k → length (elim t as (λ _. List ℕ) [ true ↦ [] | false ↦ digits k (n / 10) ] ++ ((48 + n % 10) ∷ [])) ≤ suc k
    by_cases true h = omega arith
    by_cases false h = rw length-append (omega arith)

render_few : (ps : List Piece) → length (render ps) ≤ weights ps
unfolding render weights weight
render_few [] = omega arith
render_few (lit w ∷ ps) = rw length-append (omega (arith, render_few ps))
render_few (raw n ∷ ps) = rw length-append (omega (arith, render_few ps))
render_few (dec n ∷ ps) = rw length-append (omega (arith, render_few ps, digits_few 39 n))

described : (t : Ty) → length (bytes (describe t)) ≤ 11
unfolding describe
described Int = omega arith
described Boolean = omega arith
described Address = omega arith
described Asset = omega arith
described Word64 = omega arith
described TName = omega arith
described Time = omega arith
described Str = omega arith
described Collection = omega arith
described Unknown = omega arith

-- ------------------------------------------------------------ types

-- what is known of line k of the sheet s
record Sized (s : List ℕ) (k : ℕ) (l : Line) : Type 0 where
  short : length l.name ≤ 64
  takes : Takes (lines_of s) k l

each_sized : {s : List ℕ} {j : ℕ} {xs : List Line} → Each (λ k. Named) j xs → Each (Takes (lines_of s)) j xs → Each (Sized s) j xs
each_sized no_line no_line = no_line
each_sized (one p ps) (one q qs) = one (record { short = p.short; takes = q }) (each_sized ps qs)

-- A line adds to the text of a type its name, or `_`, and at most two bytes more; of the sheet it takes its name and at least three more.
-- A name has at most 64 bytes: so 64 times what the lines before line i add is at most this.
abbrev room : List ℕ → ℕ → ℕ
room s i = 63 * bytes_upto i (lines_of s) + 3 * i

-- what that leaves a type's text, where the sheet has 16,384 bytes and 1,024 lines
abbrev type_most : ℕ
type_most = (63 * most_bytes + 3 * most_lines) / 64

-- an argument by its kind, from `kinds.type` on
by_kind : (k i : ℕ) (l : Line) (ps : Nodes) → l.kind - kinds.type ≡ k → length l.name ≤ 64
    → 64 * (weights (arg_text (arg_of (node i l ps))) + 2) ≤ 63 * (length l.name + 3) + 3 + 64 * weights (args_text true (args_of ps))
unfolding arg_of arg_text type_text weights weight
by_kind zero i l ps e h = rw e (omega arith)
by_kind (suc zero) i l ps e h = rw e (omega arith)
by_kind (suc (suc zero)) i l ps e h = rw e (omega arith)
by_kind (suc (suc (suc k))) i l ps e h = rw e (omega arith)

-- what ends the arguments has fewer bytes than what stands before the next
none_weight : (first : Bool) → weights (args_text first anil) + 1 ≤ length (bytes (before first))
unfolding args_text weights weight before
none_weight true = omega arith
none_weight false = omega arith

more_weight : (first : Bool) (a : Arg) (as' : Args) → weights (args_text first (amore a as')) ≡ length (bytes (before first)) + weights (arg_text a ++ args_text false as')
unfolding args_text weights weight before
more_weight true a as' = refl
more_weight false a as' = refl

mutual
  unfolding args_of before

  arg_weight : {s S : List ℕ} {n i : ℕ} {t : Node} → Held S n i t → Every (Sized s) t → 64 * (weights (arg_text (arg_of t)) + 2) + room s i ≤ room s (end_at S i)
  arg_weight (held {i} {l} {ps} w y r) (every p qs) =
      omega (arith, p.takes, by_kind (l.kind - kinds.type) i l ps refl p.short, args_weight true r qs)

  args_weight : {s S : List ℕ} {n i j : ℕ} {ns : Nodes} (first : Bool) → HeldAll S n i j ns → EveryOf (Sized s) ns
      → 64 * (weights (args_text first (args_of ns)) + 1) + room s i ≤ room s j + 64 * length (bytes (before first))
  args_weight first no_tree no_more = omega (arith, none_weight first)
  args_weight first (tree {t = t} {ns = ns} r rs) (and_more p ps) =
      rw (more_weight first (arg_of t) (args_of ns), weights_append (arg_text (arg_of t)) (args_text false (args_of ns)))
      (omega (arith, arg_weight r p, args_weight false rs ps))

-- ------------------------------------------------------------ what stands at a line

record BriefType (ty : Type') : Type 0 where
  name : length (type_name ty) ≤ 64
  text : weights (type_text ty) ≤ type_most

-- what messages say of the record at a line
record Brief (t : Node) : Type 0 where
  name : length (node_name t) ≤ 64
  param : length (param_of t).name ≤ 64
  field : length (field_of t).name ≤ 64
  type : BriefType (type_of t)
  param_type : BriefType (param_of t).ty
  field_type : BriefType (field_of t).ty

-- line i, whose parts stand from line j up to line k
module _ {s S : List ℕ} {n : ℕ} where
  type_brief : (i : ℕ) (l : Line) {j k : ℕ} {ps : Nodes} → HeldAll S n j k ps → EveryOf (Sized s) ps → room s k ≤ 64 * type_most
      → length l.name ≤ 64 → 64 * length l.name ≤ room s j → BriefType (type_of (node i l ps))
  unfolding type_name type_of type_text weights weight before
  type_brief i l r ps h a b = record { name = a; text = omega (arith, args_weight true r ps) }

  first_brief : {j k : ℕ} {ps : Nodes} → HeldAll S n j k ps → EveryOf (Sized s) ps → room s k ≤ 64 * type_most → BriefType (type_of (get_or (nodes ps) 0 blank_node))
  unfolding nodes weights weight before
  first_brief no_tree no_more h = type_brief _ _ {j = 0} no_tree no_more (omega arith) (omega arith) (omega arith)
  first_brief (tree (held w y r) rs) (and_more (every p qs) ps) h =
      type_brief _ _ r qs (omega (arith, args_weight true rs ps)) p.short (omega (arith, p.short, p.takes))

  brief : (i : ℕ) (l : Line) {j k : ℕ} {ps : Nodes} → HeldAll S n j k ps → EveryOf (Sized s) ps → room s k ≤ 64 * type_most
      → length l.name ≤ 64 → 64 * length l.name ≤ room s j → Brief (node i l ps)
  unfolding node_name param_of field_of
  brief i l r ps h a b =
      let first = first_brief r ps h in
      record { name = a; param = a; field = a; type = type_brief i l r ps h a b; param_type = first; field_type = first }

-- A sheet that is loaded, of at most 16,384 bytes and 1,024 lines.
module _ (s S : List ℕ) (d : Loaded s S) (small : length s ≤ most_bytes) (few : line_count S ≤ most_lines) where
  sized : {i : ℕ} (t : Stands s S i) → Every (Sized s) (node i t.line t.parts)
  sized t = every_at t (λ xs e. each_sized (lines_named (lines_of s) 1 0 0 _ xs e) (lines_take (lines_of s) 1 0 _ xs e))

  brief_at : (i : ℕ) → Brief (node_at s i)
  brief_at i =
      there_or_not d i
      (λ w.
      let t = stands d i w in
      let p = every_line (sized t) in
      rw t.here (brief i _ t.held p.1 (omega (arith, lines_most s (end_at S i), t.ends)) p.0.short (omega (arith, p.0.short, p.0.takes))))
      (λ w. rw (beyond d i w) (brief {s = s} {S = S} {n = 0} 0 _ {j = 0} no_tree no_more (omega arith) (omega arith) (omega arith)))

  dot_brief : (i : ℕ) → length (dot_at s i).name ≤ 64
  unfolding dot_at named_at
  dot_brief i = by_cases (eqb (kind_at S i) kinds.dot) refl
    where
      by_cases : (t : Bool) → eqb (kind_at S i) kinds.dot ≡ t → length (dot_at s i).name ≤ 64
      by_cases true q =
          let e = eqb-true (kind_at S i) kinds.dot q in
          rw (dot_at, dot_there d i e, ← named d (is_there d i (omega (arith, e)))) (brief_at i).name
      by_cases false q = rw (dot_at, not_dot_at d i (eqb-false (kind_at S i) kinds.dot q)) (omega arith)

  bounded : (r : Refusal) → weights (refusal_of s r).text ≤ longest
  unfolding refusal_of weights weight type_at param_at field_at named_at
  bounded (NameStored ty) = omega arith
  bounded (Arity ty) = omega (arith, brief_at ty)
  bounded (OnlyTypes ty) = omega (arith, brief_at ty)
  bounded (InnerType ty inner true) = rw weights_append (omega (arith, brief_at ty, brief_at inner))
  bounded (InnerType ty inner false) = rw weights_append (omega (arith, brief_at ty, brief_at inner))
  bounded (UnknownType ty) = rw weights_append (omega (arith, brief_at ty))
  bounded (NoArguments ty) = omega (arith, brief_at ty)
  bounded (Digest named) = omega (arith, brief_at named)
  bounded (Default field value) = omega (arith, brief_at field)
  bounded (Guardian ty) = omega arith
  bounded (Predicate e) = omega arith
  bounded (ReachesField target value) = omega (arith, brief_at target)
  bounded (ReachesValues map value) = omega (arith, brief_at map)
  bounded (ReachesEvent emit value) = omega (arith, brief_at emit)
  bounded (CollectionLocal value) = omega arith
  bounded (AssetSlot target) = omega arith
  bounded (NameIntoAddress target value) = omega (arith, brief_at target)
  bounded (WrappingIntoNarrow target value) = omega (arith, brief_at target)
  bounded (LiteralIntoNarrow target value max) = omega (arith, brief_at target)
  bounded (SlotMismatch value slot given) = omega (arith, described slot, described given)
  bounded (Recipient arg) = omega arith
  bounded (Receiver callee) = omega (arith, dot_brief callee)
  bounded (KeyedOp callee field) = omega (arith, dot_brief callee, brief_at field)
  bounded (Amount callee arg) = omega (arith, dot_brief callee)
  bounded (NameNotParam field arg) = omega (arith, brief_at field)
  bounded (NameWanted field arg) = omega (arith, brief_at field)
  bounded (Holds field arg want got) = omega (arith, brief_at field, described want, described got)
  bounded (Not inner) = omega arith
  bounded (Neg inner) = omega arith
  bounded (Logical operand) = omega arith
  bounded (Arithmetic operand) = omega arith
  bounded (Ordering operand) = omega arith
  bounded (NamesCompared left) = omega arith
  bounded (Compared right l r) = omega (arith, described l, described r)
  bounded (EmitField arg param got) = rw weights_append (omega (arith, brief_at param, described got))
  bounded (Dropped made) = omega arith
  bounded (Overflow assign) = omega (arith, brief_at (suc assign))
  bounded (KeyKinds map key) = omega (arith, brief_at map)

-- the message of every refusal, whatever lines it names
pub message_short : (s S : List ℕ) (r : Refusal) → Loaded s S → length s ≤ most_bytes → line_count S ≤ most_lines → length (render (refusal_of s r).text) ≤ longest
message_short s S r d b h = omega (arith, render_few (refusal_of s r).text, bounded s S d b h r)
