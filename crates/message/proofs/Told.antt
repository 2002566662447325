-- Pieces of a message, and the message of each refusal. Assumes nothing.
use mathlib.Core.Path.{◌≡◌, refl, sym, ap, ◌∙◌}
use mathlib.Core.Logic.{◌≢◌}
use mathlib.Core.List.{List, [], ◌++◌, append_assoc, append-nil}
use mathlib.Core.Bool.{Bool, true, false}
use Prim.Native.Nat.{ℕ, zero, suc, ◌+◌, ◌<◌, ◌≤◌}
use Prim.Native.String.{String}
use native.Mathlib.Numerals.{add-one}
use native.Mathlib.Omega.{arith}
use borrow.Author.Tests.{eq-eqb, ne_eqb, lt-leb}
use lib.ListN.{length}
use Rattle.text.specs.Text.{bytes}
use Rattle.sheet.specs.Scratch.{kind_at, name_at, line_count}
use Rattle.rules.specs.Text.{Name, Piece, render, digits}
use Rattle.rules.specs.declared.ty.Ty.{Ty}
use Rattle.rules.specs.Types.{describe, parse_u128}
use Rattle.rules.specs.Declarations.{arity_of, type_text}
use Rattle.std.specs.Prelude.{Option, unwrap_or, Some, None}
use Rattle.rules.specs.Ast.{type_name}
use Rattle.rules.specs.Standing.{node_name, node_at, named_at, type_at, field_at, param_at, Loaded}
use Rattle.rules.proofs.Standing.{beyond}
use Rattle.rules.proofs.Places.{is_there, named_at_lem, type-name_at, dot_there, not_dot_at}
use Rattle.refusals.specs.Refusal.{arity, dot_at, number_in, literal_at, refusal_of}
use Rattle.refusals.specs.declared.refusal.Refusal.{Refusal}
use Rattle.lookups.proofs.Fields.{field-name, param-name}
use Rattle.lookups.proofs.Literals.{literal_at_lem}
use Rattle.narrow.specs.Narrow.{exceeds_of}
use Rattle.writing.specs.Literal.{AddsLiteral}
use Rattle.writing.specs.Writing.{Adds}
use Rattle.writing.specs.declared.write.Message.{Message}
use Rattle.writing.proofs.Texts.{literal-plain}
use Rattle.writing.proofs.Adding.{both, adds_same}
use Rattle.writing.proofs.Arguments.{render-append}
use Rattle.writing.proofs.FieldTypes.{param_type}
use Rattle.grammar.specs.Kinds as kinds

-- ------------------------------------------------------------ names

module _ (s S : List ℕ) (i : ℕ) (d : Loaded s S) (M N : Message) where
  pub name_said : (t u x : List ℕ) → x ≡ name_at s S i → Adds (t ++ (x ++ u)) M N → Adds (t ++ (named_at s i ++ u)) M N
  name_said t u x e y = rw (← named_at_lem d i, ← e) y

  pub method_said : (t u x : List ℕ) → kind_at S i ≡ kinds.dot → x ≡ name_at s S i → Adds (t ++ (x ++ u)) M N → Adds (t ++ ((dot_at s i).name ++ u)) M N
  unfolding dot_at
  method_said t u x q f y = rw (dot_at, dot_there d i q, ← f) y

  pub no_method_said : (t u : List ℕ) → kind_at S i ≢ kinds.dot → Adds (t ++ u) M N → Adds (t ++ ((dot_at s i).name ++ u)) M N
  unfolding dot_at
  no_method_said t u q y = rw (dot_at, not_dot_at d i q) y

pub field-name_at : (s : List ℕ) (i : ℕ) → (field_at s i).name ≡ named_at s i
unfolding field_at named_at
field-name_at s i = field-name (node_at s i)

pub param-name_at : (s : List ℕ) (i : ℕ) → (param_at s i).name ≡ named_at s i
unfolding param_at named_at
param-name_at s i = param-name (node_at s i)

-- ------------------------------------------------------------ messages of several parts

abbrev Long : Message → Type 0
Long M = length M.buffer.now < 18446744073709551616

module _ (M N : Message) where
  -- a buffer that was added to is as long as before
  still_long : (t : List ℕ) → Adds t M N → Long M → Long N
  still_long t x l = omega (arith, adds_same t M N x)

  -- the name of a record, which is read as a type, a field or a parameter
  module _ (s : List ℕ) (i : ℕ) (t u : List ℕ) (x : Adds (t ++ (named_at s i ++ u)) M N) where
    as_type : Adds (t ++ (type_name (type_at s i) ++ u)) M N
    as_type = rw (type-name_at s i) x

    as_field : Adds (t ++ ((field_at s i).name ++ u)) M N
    as_field = rw (field-name_at s i) x

    as_param : Adds (t ++ ((param_at s i).name ++ u)) M N
    as_param = rw (param-name_at s i) x

  as_last : (t : List ℕ) → Adds t M N → Adds (t ++ []) M N
  as_last t x = rw (append-nil t) x

  -- two parts, which together are the text g
  module _ (O : Message) (g : List ℕ) where
    parts : (t u : List ℕ) → Adds t M N → Adds u N O → t ++ u ≡ g → Long M → Adds g M O
    parts t u x y e l = rw (← e) (both t u M N O l x y)

    -- ... the first a name between two texts
    pub name_first : (t x u v : List ℕ) → Adds (t ++ (x ++ u)) M N → Adds v N O → t ++ (x ++ (u ++ v)) ≡ g → Long M → Adds g M O
    name_first t x u v p q e l =
        parts (t ++ (x ++ u)) v p q (append_assoc t (x ++ u) v ∙ ap (λ w. t ++ w) (append_assoc x u v) ∙ e) l

    -- ... the first the text of a type
    type_first : (ps qs : List Piece) (v : List ℕ) → Adds (render ps) M N → Adds v N O → v ≡ render qs → render (ps ++ qs) ≡ g → Long M → Adds g M O
    type_first ps qs v p q f e l = parts (render ps) v p q (ap (λ w. render ps ++ w) f ∙ sym (render-append ps qs) ∙ e) l

-- Three parts that were added one behind another, which together are the text g. A name or a description stands between two texts.
module _ (s : List ℕ) (i : ℕ) (t u g : List ℕ) (M N O P : Message) where
  -- 13
  pub arity_said : (S x v : List ℕ) (o : Option ℕ) (k : ℕ) → Loaded s S → x ≡ name_at s S i → o ≡ arity_of x → k ≡ unwrap_or o 0 → Adds (t ++ (named_at s i ++ u)) M N → Adds (digits 39 k) N O → Adds v O P
      → t ++ (type_name (type_at s i) ++ (u ++ (digits 39 (arity (type_name (type_at s i))) ++ v))) ≡ g → Long M → Adds g M P
  unfolding arity
  arity_said S x v o k h e f w p q r z l =
      let n : k ≡ arity (type_name (type_at s i)) = w ∙ rw (f, e, named_at_lem h i, type-name_at s i) refl in
      name_first M N P g t (type_name (type_at s i)) u (digits 39 k ++ v) (as_type M N s i t u p)
      (parts N O P (digits 39 k ++ v) (digits 39 k) v q r refl (still_long M N _ p l)) (rw n z) l

  -- 27
  pub literal_said : (n m : ℕ) → Adds (digits 39 n) M N → Adds (t ++ (named_at s i ++ u)) N O → Adds (digits 39 m) O P
      → digits 39 n ++ (t ++ (named_at s i ++ (u ++ (digits 39 m ++ [])))) ≡ g → Long M → Adds g M P
  literal_said n m p q r z l =
      parts M N P g (digits 39 n) (t ++ (named_at s i ++ (u ++ (digits 39 m ++ [])))) p
      (name_first N O P _ t (named_at s i) u (digits 39 m ++ []) q (as_last O P (digits 39 m) r) refl (still_long M N _ p l)) z l

  -- 31
  pub keyed_said : (t' x u' v : List ℕ) → Adds (t' ++ (x ++ u')) M N → Adds (t ++ (named_at s i ++ u)) N O → Adds v O P
      → t' ++ (x ++ (u' ++ (t ++ ((field_at s i).name ++ (u ++ v))))) ≡ g → Long M → Adds g M P
  keyed_said t' x u' v p q r z l =
      name_first M N P g t' x u' (t ++ ((field_at s i).name ++ (u ++ v))) p
      (name_first N O P _ t (field_at s i).name u v (as_field N O s i t u q) r refl (still_long M N _ p l)) z l

  -- 35
  pub holds_said : (t' x u' t'' y u'' : List ℕ) → Adds (t ++ (named_at s i ++ u)) M N → Adds (t' ++ (x ++ u')) N O → Adds (t'' ++ (y ++ u'')) O P
      → t ++ ((field_at s i).name ++ (u ++ (t' ++ (x ++ (u' ++ (t'' ++ (y ++ u''))))))) ≡ g → Long M → Adds g M P
  holds_said t' x u' t'' y u'' p q r z l =
      name_first M N P g t (field_at s i).name u (t' ++ (x ++ (u' ++ (t'' ++ (y ++ u''))))) (as_field M N s i t u p)
      (name_first N O P _ t' x u' (t'' ++ (y ++ u'')) q r refl (still_long M N _ p l)) z l

-- ... with the text of a type among them, and the pieces ps behind it: 16
pub unknown_said : (ps : List Piece) (s : List ℕ) (i : ℕ) (t v g : List ℕ) (M N O P : Message)
    → Adds t M N → Adds (render (type_text (type_at s i))) N O → Adds v O P → v ≡ render ps → t ++ render (type_text (type_at s i) ++ ps) ≡ g → Long M → Adds g M P
unknown_said ps s i t v g M N O P p q r y z l =
    parts M N P g t (render (type_text (type_at s i) ++ ps)) p
    (type_first N O P _ (type_text (type_at s i)) ps v q r y refl (still_long M N _ p l)) z l

-- 15
pub inner_said : (ps : Bool → Name → List Piece) (s : List ℕ) (i j : ℕ) (key k : Bool) (t v w g : List ℕ) (M N O P : Message)
    → key ≡ k → Adds t M N → Adds (render (type_text (type_at s i))) N O → Adds (v ++ (named_at s j ++ w)) O P
    → v ++ (type_name (type_at s j) ++ w) ≡ render (ps k (type_name (type_at s j)))
    → t ++ render (type_text (type_at s i) ++ ps key (type_name (type_at s j))) ≡ g → Long M → Adds g M P
inner_said ps s i j key k t v w g M N O P e p q r y z =
    unknown_said (ps k (type_name (type_at s j))) s i t _ g M N O P p q (as_type O P s j v w r) y (rw (← e) z)

-- 43
pub emit_said : (ps : String → List Piece) (s : List ℕ) (i : ℕ) (ty : Ty) (t u v w g : List ℕ) (M N O P : Message)
    → Adds (t ++ (named_at s i ++ u)) M N → Adds (render (type_text (field_at s i).ty)) N O → Adds (v ++ (bytes (describe ty) ++ w)) O P
    → v ++ (bytes (describe ty) ++ w) ≡ render (ps (describe ty))
    → t ++ ((param_at s i).name ++ (u ++ render (type_text (param_at s i).ty ++ ps (describe ty)))) ≡ g → Long M → Adds g M P
emit_said ps s i ty t u v w g M N O P p q r y z l =
    name_first M N P g t (param_at s i).name u _ (as_param M N s i t u p)
    (type_first N O P _ (type_text (param_at s i).ty) (ps (describe ty)) _ (rw (param_type s i) q) r y refl (still_long M N _ p l)) z l

zero_said : (M N : Message) → Adds (bytes "0") M N → Adds (digits 39 0) M N
unfolding digits
zero_said M N x = x

module _ (s S : List ℕ) (i : ℕ) (d : Loaded s S) where
  -- the name of the record behind line i
  module _ (t u g : List ℕ) (M N : Message) where
    pub next_said : Adds (t ++ (named_at s (i + 1) ++ u)) M N → t ++ (named_at s (suc i) ++ u) ≡ g → Adds g M N
    next_said x e = rw (← e, ← add-one i) x

    pub none_said : (n : ℕ) → n ≡ line_count S → n ≤ i → Adds (t ++ u) M N → t ++ (named_at s (suc i) ++ u) ≡ g → Adds g M N
    unfolding named_at node_name
    none_said n c h x e = rw (← e, beyond d (suc i) (omega (arith, c))) x

  -- the number of the literal at line i
  module _ (M N : Message) where
    pub no_literal : kind_at S i ≢ kinds.int → Adds (bytes "0") M N → Adds (digits 39 (literal_at s i)) M N
    no_literal n x = rw (literal_at_lem d i, ne_eqb (kind_at S i) kinds.int n) (zero_said M N x)

    module _ (q : kind_at S i ≡ kinds.int) (x : List ℕ) (f : x ≡ name_at s S i) (v : Bool) (g : v ≡ exceeds_of x 0) where
      number_is : literal_at s i ≡ number_in x
      number_is = rw (literal_at_lem d i, eq-eqb (kind_at S i) kinds.int q, f) refl

      pub literal_there : v ≡ true → AddsLiteral x M N → Adds (digits 39 (literal_at s i)) M N
      unfolding number_in exceeds_of
      literal_there h y = rw number_is (by_cases (parse_u128 x) refl (sym g ∙ h))
        where
          by_cases : (o : Option ℕ) → parse_u128 x ≡ o → exceeds_of x 0 ≡ true → Adds (digits 39 (number_in x)) M N
          by_cases None z w = absurd (let f : ◌≡◌ {A = ℕ} 0 1 = cc (rw (exceeds_of, z) at w) in omega arith)
          by_cases (Some n) z w = rw (number_in, z) (y.number n (rw f (literal-plain s S i d (is_there d i (λ o. omega (arith, q, o))) q)) z)

      pub literal_zero : v ≡ false → Adds (bytes "0") M N → Adds (digits 39 (literal_at s i)) M N
      unfolding number_in exceeds_of
      literal_zero h y = rw number_is (by_cases (parse_u128 x) refl (sym g ∙ h))
        where
          by_cases : (o : Option ℕ) → parse_u128 x ≡ o → exceeds_of x 0 ≡ false → Adds (digits 39 (number_in x)) M N
          by_cases None z w = rw (number_in, z) (zero_said M N y)
          by_cases (Some zero) z w = rw (number_in, z) (zero_said M N y)
          by_cases (Some (suc n)) z w = absurd (let f : ◌≡◌ {A = ℕ} 0 1 = cc (rw (exceeds_of, z, lt-leb (suc n) 0 (omega arith)) at w) in omega arith)

-- ------------------------------------------------------------ the refusals

module _ (s : List ℕ) (r q : Refusal) (M N : Message) where
  pub told : r ≡ q → Adds (render (refusal_of s q).text) M N → Adds (render (refusal_of s r).text) M N
  told e x = rw e x

  -- a name between two texts
  pub told_name : (t x y u : List ℕ) → r ≡ q → x ≡ y → Adds (t ++ (x ++ u)) M N → t ++ (y ++ u) ≡ render (refusal_of s q).text → Adds (render (refusal_of s r).text) M N
  told_name t x y u e f z g = rw (e, ← g, ← f) z

  -- ... of a record, which is read as a type, a field or a parameter
  module _ (i : ℕ) (t u : List ℕ) (e : r ≡ q) (x : Adds (t ++ (named_at s i ++ u)) M N) where
    pub told_type : t ++ (type_name (type_at s i) ++ u) ≡ render (refusal_of s q).text → Adds (render (refusal_of s r).text) M N
    told_type = told_name t _ _ u e (sym (type-name_at s i)) x

    pub told_field : t ++ ((field_at s i).name ++ u) ≡ render (refusal_of s q).text → Adds (render (refusal_of s r).text) M N
    told_field = told_name t _ _ u e (sym (field-name_at s i)) x

    pub told_param : t ++ ((param_at s i).name ++ u) ≡ render (refusal_of s q).text → Adds (render (refusal_of s r).text) M N
    told_param = told_name t _ _ u e (sym (param-name_at s i)) x
