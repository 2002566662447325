-- The uses of maps line by line, and the marks that the code keeps of them.
use Rattle.std.specs.Prelude.{ℕ, suc, Bool, true, false, cond, not, ◌&&◌, List, [], ◌∷◌, ◌++◌, ◌≡◌, eqb, length, get_or, set, Option, Some, None, Result, Ok, Err, is_some}
use Rattle.sheet.specs.Scratch.{kind_at, end_at, name_at, call_arg_count}
use Rattle.rules.specs.Text.{Name, is_one}
use Rattle.rules.specs.Asking.{Res, refused}
use Rattle.rules.specs.Arithmetic.{any}
use Rattle.rules.specs.KeyKinds.{Keyed, keyed_here, keyed_in, entry_exprs, Use, name_params, is_keyed, uses_of, differs, check_uses}
use Rattle.rules.specs.Standing.{expr_at, exprs_at, entry_at, model_in}
use Rattle.rules.specs.Typing.{dot_of}
use Rattle.refusals.specs.Answers.{Answers, expected}
use Rattle.lookups.specs.Found.{FieldNamed}
use Rattle.refusals.specs.Refusal.{refusal_of}
use Rattle.refusals.specs.declared.refusal.Refusal.{Refusal}
use Rattle.refusals.specs.declared.refusal.Refusal.TheVariants.{KeyKinds}
use Rattle.key_kinds.specs.declared.marks.KeyKind.{KeyKind}
use Rattle.key_kinds.specs.declared.marks.KeyKind.TheVariants.{Named, Other}
use Rattle.grammar.specs.Kinds as kinds
use Rattle.sheet.specs.Line.{most_lines}

-- ------------------------------------------------------------ uses

-- line i is a call, with an argument, of a method of a bare name
unfoldable pub keyed_at : (s S : List ℕ) → ℕ → Bool
keyed_at s S i =
    ((eqb (kind_at S i) kinds.call && not (eqb (call_arg_count S i) 0)) && (eqb (kind_at S (suc i)) kinds.dot && eqb (kind_at S (suc (suc i))) kinds.id))
    && is_one (name_at s S (suc i)) ("set" ∷ "get" ∷ "contains" ∷ "insert" ∷ "remove" ∷ "credit" ∷ "debit" ∷ [])

-- the keyed call that line i is, where it is one
unfoldable pub call_at : (s S : List ℕ) → ℕ → List Keyed
call_at s S i = cond (eqb (kind_at S i) kinds.call) (keyed_here (dot_of (expr_at s (suc i))) (exprs_at s (call_arg_count S i) (end_at S (suc i)))) []

-- the names of the Q_Name parameters of the entry at a line
unfoldable pub names_at : List ℕ → ℕ → List Name
names_at s e = name_params (entry_at s e).params

-- the uses at line i of the entry at line e, of that entry, and of an item, which may be no entry
unfoldable pub uses_at : (s S : List ℕ) → (e i : ℕ) → List Use
uses_at s S e i = uses_of (model_in s) (names_at s e) (call_at s S i)

unfoldable pub entry_uses : List ℕ → ℕ → List Use
entry_uses s e = uses_of (model_in s) (names_at s e) (keyed_in (entry_exprs (entry_at s e)))

unfoldable pub item_uses : (s S : List ℕ) → ℕ → List Use
item_uses s S i = cond (eqb (kind_at S i) kinds.entry) (entry_uses s i) []

-- r is the field of the name x where that is a Map or Registry
pub record MapNamed (s S : List ℕ) (x : Name) (r : Option ℕ) : Type 0 where
  pub keyed : is_keyed (model_in s) x ≡ is_some r
  pub field : (f : ℕ) → r ≡ Some f → FieldNamed s S x (Some f)

-- ------------------------------------------------------------ marks

-- a map's keys are names, or not
unfoldable pub key_kind_of : Bool → KeyKind
key_kind_of true = Named
key_kind_of false = Other

-- what was seen is of the other kind
unfoldable pub is_other : KeyKind → Option KeyKind → Bool
is_other k None = false
is_other Named (Some Named) = false
is_other Named (Some Other) = true
is_other Other (Some Named) = true
is_other Other (Some Other) = false

-- a map of the other kind is refused, else the kind is put
pub record Noted (ks ls : List (Option KeyKind)) (f : ℕ) (k : KeyKind) (map key : ℕ) (r : Result Unit Refusal) : Type 0 where
  pub answer : r ≡ expected (not (is_other k (get_or ks f None))) (KeyKinds map key)
  pub marks : r ≡ Ok tt → ls ≡ set ks f (Some k)

-- the marks tell of each map whether a use of the other kind was seen
pub record KeyMarks (s S : List ℕ) (seen : List Use) (ks : List (Option KeyKind)) : Type 0 where
  pub size : length ks ≡ most_lines
  pub tells : (u : Use) (f : ℕ) → FieldNamed s S u.map (Some f) → any (differs u) seen ≡ is_other (key_kind_of u.is_name) (get_or ks f None)

-- with the marks from ks to ls, some uses are fine up to those that are left
pub record Passed (s S : List ℕ) (ks ls : List (Option KeyKind)) (all left : List Use) : Type 0 where
  pub passed : (seen : List Use) → KeyMarks s S seen ks
      → (seen' : List Use) × KeyMarks s S seen' ls × ((us : List Use) (r : Res Unit) → Answers (check_uses seen' (left ++ us)) r → Answers (check_uses seen (all ++ us)) r)

-- the answer to some uses, whatever comes behind them
pub record Judged (s S : List ℕ) (ks ls : List (Option KeyKind)) (all : List Use) (r : Result Unit Refusal) : Type 0 where
  pub fine : r ≡ Ok tt → Passed s S ks ls all []
  pub stops : (why : Refusal) → r ≡ Err why → (seen us : List Use) → KeyMarks s S seen ks → Answers (check_uses seen (all ++ us)) (refused (refusal_of s why))
