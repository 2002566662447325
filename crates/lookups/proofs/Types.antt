-- Declared types over loaded lines. Assumes nothing.
use mathlib.Core.Path.{◌≡◌, refl, sym, ap, ◌∙◌}
use mathlib.Core.Logic.{◌≢◌}
use mathlib.Core.List.{List, [], ◌∷◌, ◌++◌, map, append-nil}
use mathlib.Core.Bool.{Bool, true, false}
use Prim.Native.Nat.{ℕ, zero, suc, ◌-◌, ◌<◌, ◌≤◌}
use Prim.Native.String.{String}
use native.Mathlib.Omega.{arith}
use lib.ListN.{length, get_or, get_or-eq_default}
use Rattle.text.specs.Text.{bytes, same, ended}
use Rattle.text.specs.Word.{index_in, place_in, split}
use Rattle.text.proofs.Words.{place_told}
use Rattle.std.specs.Prelude.{Option, Some, None, slice_get}
use Rattle.std.specs.Bool.{then_some}
use borrow.Author.Tests.{ltb-true, ltb-false}
use lib.Dec.{ltb}
use Rattle.grammar.specs.Grammar as grammar
use Rattle.sheet.specs.Load.{sorts}
use Rattle.sheet.specs.Line.{Line}
use Rattle.sheet.specs.Tree.{node, Nodes, nil, more}
use Rattle.sheet.proofs.Due.{length-copies}
use Rattle.sheet.specs.Scratch.{name_at, kind_at, skip, type_arg_count}
use Rattle.rules.specs.Text.{Name, is}
use Rattle.rules.specs.Ast.{Arg, of_type, of_int, m_of_n, arg_list, type_name, type_of, arg_of, args_of, args, nodes}
use Rattle.rules.specs.declared.ty.Ty.{Ty}
use Rattle.rules.specs.declared.ty.Ty.TheVariants.{Int, Bool as Boolean, Address, Asset, Word64, Name as TName, Time, Collection, Unknown}
use Rattle.rules.specs.Types.{is_integer_type, ty_of_name, ty_of_decl, ty_of_arg, declared_arg}
use Rattle.rules.specs.Standing.{type_at, arg_at, nodes_at, Loaded, Here, Row}
use Rattle.rules.proofs.Parts.{stop, ◌also◌, pick, parts}
use Rattle.rules.proofs.Places.{there_or_not, no_kind_lem, named_at_lem, type-name_at}
use Rattle.rules.proofs.Records.{no_nodes}
use Rattle.rules.proofs.Rows.{Listed}
use Rattle.rules.proofs.Standing.{stands, beyond as no_record, nodes_next, parts_behind, row_behind, row_nth, node_nth, nodes-length}
use Rattle.lookups.specs.Named.{named_types}
use Rattle.lookups.proofs.Tables.{values_in, pick_place, one_of}
use Rattle.grammar.specs.Kinds as kinds

-- the names of types with what they mean, in one table
abbrev pub names : String
names = "u8 u16 u32 u64 u128 i8 i16 i32 i64 i128 bool Q_Address Q_Asset Q_Word64 Q_Name Time Q_Id Map Registry GuardianSet "

abbrev integers : List String
integers = "u8" ∷ "u16" ∷ "u32" ∷ "u64" ∷ "u128" ∷ "i8" ∷ "i16" ∷ "i32" ∷ "i64" ∷ "i128" ∷ []

abbrev others : List (String × Ty)
others =
    ("bool", Boolean) ∷ ("Q_Address", Address) ∷ ("Q_Asset", Asset) ∷ ("Q_Word64", Word64) ∷ ("Q_Name", TName) ∷ ("Time", Time)
    ∷ ("Q_Id", Int) ∷ ("Map", Collection) ∷ ("Registry", Collection) ∷ ("GuardianSet", Collection) ∷ []

abbrev table : List (String × Ty)
table = map (λ w. (w, Int)) integers ++ others

name_place : (x : Name) → ty_of_name x ≡ get_or (values_in table) (index_in x (split (bytes names))) Unknown
unfolding ty_of_name is_integer_type split ended
name_place x = one_of x integers Int others Unknown ∙ pick_place x table Unknown

-- the place of a type's name in the table: below 20, or it has none
module _ (x : Name) (o : Option ℕ) (e : o ≡ place_in x (split (bytes names))) where
  placed : o ≡ then_some (ltb (index_in x (split (bytes names))) 20) (index_in x (split (bytes names)))
  unfolding split ended
  placed = e ∙ place_told x (split (bytes names))

  pub name_below : (p : ℕ) → o ≡ Some p → p < 20
  name_below p h = by_cases (index_in x (split (bytes names))) _ refl (sym placed ∙ h)
    where
      by_cases : (i : ℕ) (b : Bool) → ltb i 20 ≡ b → then_some b i ≡ Some p → p < 20
      by_cases i true q f = let z : i ≡ p = cc in omega (arith, ltb-true i 20 q)
      by_cases i false q f = absurd (let z : ◌≡◌ {A = ℕ} 0 1 = cc in omega arith)

  pub named : (p : ℕ) (r : Ty) → o ≡ Some p → r ≡ get_or named_types p Unknown → r ≡ ty_of_name x
  named p r h f = f ∙ ap (λ i. get_or named_types i Unknown) (place (index_in x (split (bytes names))) _ (sym placed ∙ h)) ∙ sym (name_place x)
    where
      place : (i : ℕ) (b : Bool) → then_some b i ≡ Some p → p ≡ i
      place i true q = cc
      place i false q = absurd (let z : ◌≡◌ {A = ℕ} 0 1 = cc in omega arith)

  pub unnamed : o ≡ None → Unknown ≡ ty_of_name x
  unnamed h = by_cases (index_in x (split (bytes names))) _ refl (sym placed ∙ h) ∙ sym (name_place x)
    where
      by_cases : (i : ℕ) (b : Bool) → ltb i 20 ≡ b → then_some b i ≡ None → Unknown ≡ get_or (values_in table) i Unknown
      by_cases i true q f = absurd (let z : ◌≡◌ {A = ℕ} 0 1 = cc in omega arith)
      by_cases i false q f = sym (get_or-eq_default (values_in table) Unknown (ltb-false i 20 q))

pub type_name_lem : (s S : List ℕ) (i : ℕ) → Loaded s S → name_at s S i ≡ type_name (type_at s i)
type_name_lem s S i d = named_at_lem d i ∙ sym (type-name_at s i)

-- a test of a type's name
pub named_word : (s S : List ℕ) (i : ℕ) (x : Name) (w : String) (r : Bool) → Loaded s S → x ≡ name_at s S i → r ≡ same x (bytes w) → r ≡ is (type_name (type_at s i)) w
unfolding is
named_word s S i x w r d e f = f ∙ ap (λ y. same y (bytes w)) (e ∙ type_name_lem s S i d)

pub declared : (s S : List ℕ) (i : ℕ) (x : Name) (r : Ty) → Loaded s S → x ≡ name_at s S i → r ≡ ty_of_name x → r ≡ ty_of_decl (type_at s i)
unfolding ty_of_decl
declared s S i x r d e f = f ∙ ap ty_of_name (e ∙ type_name_lem s S i d)

-- ------------------------------------------------------------ arguments

args-list : (ns : Nodes) → arg_list (args_of ns) ≡ map arg_of (nodes ns)
unfolding arg_list args_of nodes
args-list nil = refl
args-list (more t ns) = ap (λ as'. arg_of t ∷ as') (args-list ns)

-- k arguments, one behind another, the first at line i
unfoldable pub args_at : List ℕ → ℕ → ℕ → List Arg
args_at s k i = map arg_of (nodes_at s k i)

pub arguments : Listed arg_at args_at
unfolding args_at arg_at
arguments = record { empty = λ s i. rw (no_nodes s i) refl; first = λ d m {i} w. rw (nodes_next d m i w) refl }

-- the arguments of a type stand behind it
args_at_lem : (s S : List ℕ) (i : ℕ) → Loaded s S → Here S grammar.Ty i → (args (type_at s i) ≡ args_at s (type_arg_count S i) (suc i)) × Row S grammar.Arg (type_arg_count S i) (suc i)
unfolding type_at type_of args args_at nodes_at sorts
args_at_lem s S i d h =
    let t = stands d i h.within in
    let k : t.line.kind ≡ kinds.type = omega (arith, t.says.kind, h.kind.0, h.kind.1) in
    let g = parts t.line kinds.type t.parted k in
    let m : type_arg_count S i ≡ g.0 = rw (t.says.first, g.1) refl in
    rw (t.here, m) (
      args-list t.parts ∙ ap (λ ns. map arg_of (nodes ns)) (parts_behind t ∙ rw (g.1, append-nil, length-copies) refl),
      row_behind g.0 [] t (rw g.1 refl),
    )

-- what holds for each kind of an argument holds for that of line j
pub by_kind : {S : List ℕ} {j : ℕ} (P : ℕ → Type 0) (k : ℕ) → Here S grammar.Arg j → k ≡ kind_at S j → P kinds.type → P kinds.num → P kinds.mofn → P k
by_kind P k a e x y z = pick {P = P} {i = kinds.type} {n = 3} k (x also y also z also stop) (omega (arith, a.kind.0)) (omega (arith, a.kind.1))

-- an argument by its line's kind
abbrev pub arg_of_kind : List ℕ → List ℕ → ℕ → ℕ → Arg
arg_of_kind s S j k = get_or (of_type (type_at s j) ∷ of_int (name_at s S j) ∷ []) (k - kinds.type) m_of_n

-- a record as an argument
arg_of_lem : (i : ℕ) (l : Line) (ps : Nodes) (m : ℕ) → l.kind - kinds.type ≡ m → arg_of (node i l ps) ≡ get_or (of_type (type_of (node i l ps)) ∷ of_int l.name ∷ []) m m_of_n
unfolding arg_of type_of
arg_of_lem i l ps zero e = rw e refl
arg_of_lem i l ps (suc zero) e = rw e refl
arg_of_lem i l ps (suc (suc zero)) e = rw e refl
arg_of_lem i l ps (suc (suc (suc m))) e = rw e refl

pub arg_told : (s S : List ℕ) (j k : ℕ) → Loaded s S → k ≡ kind_at S j → arg_at s j ≡ arg_of_kind s S j k
unfolding arg_at arg_of args_of type_at type_of
arg_told s S j k d e =
    there_or_not d j
    (λ w. let t = stands d j w in rw (t.here, t.spells.name) (arg_of_lem j t.line t.parts (k - kinds.type) (ap (λ n. n - kinds.type) (sym (e ∙ t.says.kind)))))
    (λ w. rw (no_record d j w, e, no_kind_lem S j w) refl)

pub arg_type : (S : List ℕ) (j k : ℕ) → Here S grammar.Arg j → k ≡ kind_at S j → k ≡ kinds.type → Here S grammar.Ty j
arg_type S j k a f e = record { within = a.within; kind = (omega (arith, f), omega (arith, f)); after = a.after }

pub beyond : {A : Type 0} (xs : List A) (k : ℕ) → length xs ≤ k → slice_get xs k ≡ None
beyond [] zero h = refl
beyond [] (suc k) h = refl
beyond (x ∷ xs) zero h = absurd (omega arith)
beyond (x ∷ xs) (suc k) h = beyond xs k (omega arith)

nth_map : {A B : Type 0} (f : A → B) (xs : List A) (k : ℕ) (x : A) → slice_get xs k ≡ Some x → slice_get (map f xs) k ≡ Some (f x)
nth_map f [] zero x e = absurd (let z : ◌≡◌ {A = ℕ} 0 1 = cc in omega arith)
nth_map f [] (suc k) x e = absurd (let z : ◌≡◌ {A = ℕ} 0 1 = cc in omega arith)
nth_map f (y ∷ xs) zero x e = let q : y ≡ x = cc in rw q refl
nth_map f (y ∷ xs) (suc k) x e = nth_map f xs k x e

pub length-map : {A B : Type 0} (f : A → B) (xs : List A) → length (map f xs) ≡ length xs
length-map f [] = refl
length-map f (x ∷ xs) = ap suc (length-map f xs)

-- The arguments of the type at line i, m of them.
module _ (s S : List ℕ) (i m : ℕ) (d : Loaded s S) (h : Here S grammar.Ty i) (c : m ≡ type_arg_count S i) where
  pub args_here : args (type_at s i) ≡ args_at s m (suc i)
  args_here = rw c (args_at_lem s S i d h).0

  pub args_row : Row S grammar.Arg m (suc i)
  args_row = rw c (args_at_lem s S i d h).1

  pub args_count : length (args (type_at s i)) ≡ m
  unfolding args_at
  args_count = rw args_here (length-map arg_of (nodes_at s m (suc i)) ∙ nodes-length d args_row)

-- What `declared_arg` meets: m arguments, of which it wants the one at line j, of kind n.
module _ (s S : List ℕ) (i k m : ℕ) (d : Loaded s S) (h : Here S grammar.Ty i) (c : m ≡ type_arg_count S i) where
  pub nth_beyond : m ≤ k → slice_get (args (type_at s i)) k ≡ None
  nth_beyond e = beyond (args (type_at s i)) k (omega (arith, args_count s S i m d h c))

  pub none_there : (r : Ty) → m ≤ k → r ≡ Unknown → r ≡ declared_arg (type_at s i) k
  unfolding declared_arg
  none_there r e q = rw (declared_arg, nth_beyond e) q

  module _ (j : ℕ) (e : k < m) (f : j ≡ skip S k (suc i)) where
    pub there : Here S grammar.Arg j
    there = rw f (row_nth k e (args_row s S i m d h c))

    pub nth_there : slice_get (args (type_at s i)) k ≡ Some (arg_of_kind s S j (kind_at S j))
    unfolding arg_at args_at
    nth_there =
        let q = nth_map arg_of (nodes_at s m (suc i)) k _ (node_nth k d e (args_row s S i m d h c)) in
        rw (args_here s S i m d h c, q, ← f) (ap Some (arg_told s S j (kind_at S j) d refl))

    arg_there : declared_arg (type_at s i) k ≡ ty_of_arg (arg_of_kind s S j (kind_at S j))
    unfolding declared_arg
    arg_there = rw (declared_arg, nth_there) refl

    pub type_there : kind_at S j ≡ kinds.type → Here S grammar.Ty j
    type_there = arg_type S j (kind_at S j) there refl

    pub typed_there : (r : Ty) → kind_at S j ≡ kinds.type → r ≡ ty_of_decl (type_at s j) → r ≡ declared_arg (type_at s i) k
    unfolding ty_of_arg
    typed_there r q x = rw (arg_there, q) x

    pub other_there : (r : Ty) → kind_at S j ≢ kinds.type → r ≡ Unknown → r ≡ declared_arg (type_at s i) k
    unfolding ty_of_arg
    other_there r q x = rw arg_there (by_kind (λ n. n ≢ kinds.type → r ≡ ty_of_arg (arg_of_kind s S j n)) (kind_at S j) there refl (λ y. absurd (y refl)) (λ _. x) (λ _. x) q)
