-- The number, place and text of each refusal of the code (docs/REFUSALS.md). Lines are those of the sheet s.
use Rattle.std.specs.Prelude.{ℕ, suc, List, [], ◌∷◌, Bool, cond, eqb, Result, Ok, Err, Some, None, unwrap_or}
use Rattle.sheet.specs.Tree.{Node, node}
use Rattle.rules.specs.Text.{Name, lit}
use Rattle.rules.specs.Ast.{span, type_name, type_span}
use Rattle.rules.specs.Asking.{Refusal as Ruled, Res, ok, refused}
use Rattle.rules.specs.Declarations.{guardian_text, inner_text, only_types_text, arity_text, arity_of, unknown_text, no_arguments_text, name_text, digest_text}
use Rattle.rules.specs.Standing.{node_at, expr_at, type_at, param_at, field_at, named_at, place_at}
use Rattle.rules.specs.Typing.{Dot, dot_of, name_not_param_text, name_wanted_text, holds_text, amount_text, keyed_op_text, receiver_text, not_text, neg_text, logical_text, arithmetic_text, ordering_text, names_compared_text, compared_text}
use Rattle.rules.specs.Types.{parse_u128}
use Rattle.rules.specs.Statements.{emit_text, address_text, wrapping_text, literal_text, asset_slot_text, slot_text, predicate_text, recipient_text}
use Rattle.rules.specs.Assets.{dropped_text, reaches_text, field_slot, values_slot, event_slot}
use Rattle.rules.specs.Arithmetic.{overflow_text}
use Rattle.rules.specs.KeyKinds.{key_kinds_text}
use Rattle.rules.specs.Check.{local_text, default_text}
use Rattle.refusals.specs.declared.refusal.Refusal.{Refusal}
use Rattle.refusals.specs.declared.refusal.Refusal.TheVariants.{NameStored, Arity, OnlyTypes, InnerType, UnknownType, NoArguments, Digest, Default, Guardian, Predicate, ReachesField, ReachesValues, ReachesEvent, CollectionLocal, AssetSlot, NameIntoAddress, WrappingIntoNarrow, LiteralIntoNarrow, SlotMismatch, Recipient, Receiver, KeyedOp, Amount, NameNotParam, NameWanted, Holds, Not, Neg, Logical, Arithmetic, Ordering, NamesCompared, Compared, EmitField, Dropped, Overflow, KeyKinds}
use Rattle.grammar.specs.Kinds as kinds

-- the dot at a line
unfoldable pub dot_at : List ℕ → ℕ → Dot
dot_at s i = elim (dot_of (expr_at s i)) [ Some d ↦ d | None ↦ record { base = expr_at s i; name = []; nspan = 0 } ]

-- how many arguments a Map or Registry takes
unfoldable pub arity : Name → ℕ
arity x = unwrap_or (arity_of x) 0

-- the record is an `int`
unfoldable pub is_literal : Node → Bool
is_literal (node i l ps) = eqb l.kind kinds.int

-- the number of a literal's text
unfoldable pub number_in : Name → ℕ
number_in text = unwrap_or (parse_u128 text) 0

-- the number of the literal at a line
unfoldable pub literal_at : List ℕ → ℕ → ℕ
literal_at s i = cond (is_literal (node_at s i)) (number_in (named_at s i)) 0

unfoldable pub refusal_of : List ℕ → Refusal → Ruled
refusal_of s (NameStored ty) = record { number = 12; place = type_span (type_at s ty); text = name_text }
refusal_of s (Arity ty) =
    record { number = 13; place = type_span (type_at s ty); text = arity_text (type_at s ty) (arity (type_name (type_at s ty))) }
refusal_of s (OnlyTypes ty) = record { number = 14; place = type_span (type_at s ty); text = only_types_text (type_at s ty) }
refusal_of s (InnerType ty inner key) =
    record { number = 15; place = type_span (type_at s inner); text = inner_text (type_at s ty) (type_at s inner) key }
refusal_of s (UnknownType ty) = record { number = 16; place = type_span (type_at s ty); text = unknown_text (type_at s ty) }
refusal_of s (NoArguments ty) = record { number = 17; place = type_span (type_at s ty); text = no_arguments_text (type_at s ty) }
refusal_of s (Digest named) =
    record { number = 18; place = type_span (type_at s (suc named)); text = digest_text (param_at s named).name }
refusal_of s (Default field value) = record { number = 19; place = span (expr_at s value); text = default_text (field_at s field).ty }
refusal_of s (Guardian ty) = record { number = 20; place = type_span (type_at s ty); text = guardian_text }
refusal_of s (Predicate e) = record { number = 21; place = span (expr_at s e); text = predicate_text }
refusal_of s (ReachesField target value) =
    record { number = 22; place = span (expr_at s value); text = reaches_text (field_slot (named_at s target)) }
refusal_of s (ReachesValues map value) =
    record { number = 22; place = span (expr_at s value); text = reaches_text (values_slot (named_at s map)) }
refusal_of s (ReachesEvent emit value) =
    record { number = 22; place = span (expr_at s value); text = reaches_text (event_slot (named_at s emit)) }
refusal_of s (CollectionLocal value) = record { number = 23; place = span (expr_at s value); text = local_text }
refusal_of s (AssetSlot target) = record { number = 24; place = place_at s target; text = asset_slot_text }
refusal_of s (NameIntoAddress target value) = record { number = 25; place = span (expr_at s value); text = address_text (named_at s target) }
refusal_of s (WrappingIntoNarrow target value) =
    record { number = 26; place = span (expr_at s value); text = wrapping_text (named_at s target) }
refusal_of s (LiteralIntoNarrow target value max) =
    record { number = 27; place = span (expr_at s value); text = literal_text (named_at s target) (literal_at s value) max }
refusal_of s (SlotMismatch value slot given) =
    record { number = 28; place = span (expr_at s value); text = slot_text slot given }
refusal_of s (Recipient arg) = record { number = 29; place = span (expr_at s arg); text = recipient_text }
refusal_of s (Receiver callee) = record { number = 30; place = span (dot_at s callee).base; text = receiver_text (dot_at s callee).name }
refusal_of s (KeyedOp callee field) =
    record { number = 31; place = (dot_at s callee).nspan; text = keyed_op_text (dot_at s callee).name (field_at s field) }
refusal_of s (Amount callee arg) = record { number = 32; place = span (expr_at s arg); text = amount_text (dot_at s callee).name }
refusal_of s (NameNotParam field arg) = record { number = 33; place = span (expr_at s arg); text = name_not_param_text (field_at s field).name }
refusal_of s (NameWanted field arg) = record { number = 34; place = span (expr_at s arg); text = name_wanted_text (field_at s field).name }
refusal_of s (Holds field arg want got) =
    record { number = 35; place = span (expr_at s arg); text = holds_text (field_at s field).name want got }
refusal_of s (Not inner) = record { number = 36; place = span (expr_at s inner); text = lit not_text ∷ [] }
refusal_of s (Neg inner) = record { number = 37; place = span (expr_at s inner); text = lit neg_text ∷ [] }
refusal_of s (Logical operand) = record { number = 38; place = span (expr_at s operand); text = lit logical_text ∷ [] }
refusal_of s (Arithmetic operand) = record { number = 39; place = span (expr_at s operand); text = lit arithmetic_text ∷ [] }
refusal_of s (Ordering operand) = record { number = 40; place = span (expr_at s operand); text = lit ordering_text ∷ [] }
refusal_of s (NamesCompared left) = record { number = 41; place = span (expr_at s left); text = names_compared_text }
refusal_of s (Compared right l r) =
    record { number = 42; place = span (expr_at s right); text = compared_text l r }
refusal_of s (EmitField arg param got) =
    record { number = 43; place = span (expr_at s arg); text = emit_text (param_at s param) got }
refusal_of s (Dropped made) = record { number = 44; place = place_at s made; text = dropped_text }
refusal_of s (Overflow assign) = record { number = 45; place = place_at s assign; text = overflow_text (named_at s (suc assign)) }
refusal_of s (KeyKinds map key) = record { number = 46; place = span (expr_at s key); text = key_kinds_text (named_at s map) }

-- what a rule that gives no value answers
unfoldable pub done_of : List ℕ → Result Unit Refusal → Res Unit
done_of s (Ok tt) = ok tt
done_of s (Err r) = refused (refusal_of s r)
