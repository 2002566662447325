-- Where the place of a refusal is read.
use Rattle.std.specs.Prelude.{ℕ}
use Rattle.refusals.specs.declared.refusal.Refusal.{Refusal}
use Rattle.refusals.specs.declared.refusal.Refusal.TheVariants.{NameStored, Arity, OnlyTypes, InnerType, UnknownType, NoArguments, Digest, Default, Guardian, Predicate, ReachesField, ReachesValues, ReachesEvent, CollectionLocal, AssetSlot, NameIntoAddress, WrappingIntoNarrow, LiteralIntoNarrow, SlotMismatch, Recipient, Receiver, KeyedOp, Amount, NameNotParam, NameWanted, Holds, Not, Neg, Logical, Arithmetic, Ordering, NamesCompared, Compared, EmitField, Dropped, Overflow, KeyKinds}

-- the line whose record's place is the refusal's; of Digest, Receiver and KeyedOp the line that their place is found from
unfoldable pub line_of : Refusal → ℕ
line_of (NameStored ty) = ty
line_of (Arity ty) = ty
line_of (OnlyTypes ty) = ty
line_of (InnerType ty inner key) = inner
line_of (UnknownType ty) = ty
line_of (NoArguments ty) = ty
line_of (Digest named) = named
line_of (Default field value) = value
line_of (Guardian ty) = ty
line_of (Predicate e) = e
line_of (ReachesField target value) = value
line_of (ReachesValues map value) = value
line_of (ReachesEvent emit value) = value
line_of (CollectionLocal value) = value
line_of (AssetSlot target) = target
line_of (NameIntoAddress target value) = value
line_of (WrappingIntoNarrow target value) = value
line_of (LiteralIntoNarrow target value max) = value
line_of (SlotMismatch value slot given) = value
line_of (Recipient arg) = arg
line_of (Receiver callee) = callee
line_of (KeyedOp callee field) = callee
line_of (Amount callee arg) = arg
line_of (NameNotParam field arg) = arg
line_of (NameWanted field arg) = arg
line_of (Holds field arg want got) = arg
line_of (Not inner) = inner
line_of (Neg inner) = inner
line_of (Logical operand) = operand
line_of (Arithmetic operand) = operand
line_of (Ordering operand) = operand
line_of (NamesCompared left) = left
line_of (Compared right l r) = right
line_of (EmitField arg param got) = arg
line_of (Dropped made) = made
line_of (Overflow assign) = assign
line_of (KeyKinds map key) = key
