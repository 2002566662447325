-- Known types, and how many arguments they take. Assumes nothing.
use mathlib.Core.Path.{◌≡◌, refl}
use mathlib.Core.List.{List}
use mathlib.Core.Bool.{Bool, true, false, not, ◌||◌}
use Prim.Native.Nat.{ℕ}
use lib.Dec.{eqb}
use denote.Enum.Bare.{sameb}
use Rattle.std.specs.Prelude.{Result, Err}
use Rattle.grammar.specs.Grammar as grammar
use Rattle.sheet.specs.Scratch.{type_arg_count}
use Rattle.rules.specs.declared.ty.Ty.{Ty}
use Rattle.rules.specs.declared.ty.Ty.TheVariants.{Unknown}
use Rattle.rules.specs.contracts.ty.Ty.{the_type}
use Rattle.rules.specs.Types.{ty_of_decl}
use Rattle.rules.specs.Declarations.{known, event_field_type}
use Rattle.rules.specs.Standing.{type_at, Loaded, Here}
use Rattle.rules.proofs.Same.{told_ty}
use Rattle.refusals.specs.Answers.{Answers, expected}
use Rattle.refusals.specs.Refusal.{refusal_of, done_of}
use Rattle.refusals.specs.declared.refusal.Refusal.TheVariants.{UnknownType, NoArguments}
use Rattle.refusals.proofs.Answers.{passes, refuses, expects}
use Rattle.lookups.proofs.Types.{args_count}
use Rattle.declarations.specs.Tests.{takes_none}
use Rattle.refusals.specs.declared.refusal.Refusal.{Refusal}

-- What `known` meets: the type t with m arguments; u tells whether it is unknown, and b whether it may have none.
module _ (s : List ℕ) (i : ℕ) (t : Ty) (u : Bool) (e : t ≡ ty_of_decl (type_at s i)) (g : u ≡ sameb the_type t Unknown) where
  pub known-unknown : u ≡ true → Answers (known (type_at s i)) (done_of s (Err (UnknownType i)))
  unfolding known done_of refusal_of
  known-unknown f = refuses _ 16 _ _ _ (rw (← e, ← told_ty t Unknown u g, f) refl)

  module _ (S : List ℕ) (m : ℕ) (b : Bool) (d : Loaded s S) (h : Here S grammar.Ty i) (f : u ≡ false) (q : b ≡ takes_none t) (c : m ≡ type_arg_count S i) where
    pub known-args : (r : Result Unit Refusal) → r ≡ expected (not b || eqb m 0) (NoArguments i) → Answers (known (type_at s i)) (done_of s r)
    unfolding known refusal_of takes_none
    known-args r k =
        passes _ 16 _ _ _ _ (rw (← e, ← told_ty t Unknown u g, f) refl)
        (rw (args_count s S i m d h c, ← e, ← q) (expects s (not b || eqb m 0) (NoArguments i) r k))

pub event-known : (s : List ℕ) (i : ℕ) (r : Result Unit Refusal) → Answers (known (type_at s i)) (done_of s r) → Answers (event_field_type (type_at s i)) (done_of s r)
unfolding event_field_type
event-known s i r e = e
