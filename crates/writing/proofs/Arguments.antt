-- The text of a type, argument by argument. Assumes nothing.
use mathlib.Core.Path.{◌≡◌, refl, sym, ◌∙◌}
use mathlib.Core.Logic.{◌≢◌}
use mathlib.Core.List.{List, [], ◌∷◌, ◌++◌, append_assoc, append-nil}
use mathlib.Core.Bool.{Bool, true, false}
use Prim.Native.Nat.{ℕ, suc, ◌+◌, ◌-◌, ◌*◌, ◌<◌, ◌≤◌}
use native.Mathlib.Omega.{arith}
use native.Mathlib.Numerals.{add-one}
use borrow.Author.Tests.{lt-ltb, le-ltb}
use lib.ListN.{length}
use Rattle.text.specs.Text.{bytes, same}
use Rattle.sheet.specs.Held.{held, HeldAll, no_tree, tree}
use Rattle.sheet.specs.Scratch.{name_at, kind_at, end_at, line_count}
use Rattle.sheet.specs.Tree.{Nodes, nil, before as joined}
use Rattle.sheet.proofs.Holds.{all_le}
use Rattle.rules.specs.Text.{Piece, lit, raw, dec, is, digits, render}
use Rattle.rules.specs.Ast.{Arg, Args, anil, amore, type_of, args_of}
use Rattle.rules.specs.Declarations.{arg_text, args_text, type_text}
use Rattle.rules.specs.Standing.{trees_from, type_at, arg_at, Loaded}
use Rattle.rules.proofs.Places.{there_or_not}
use Rattle.rules.proofs.Standing.{stands, none_beyond, beyond}
use Rattle.lookups.proofs.Types.{arg_told}
use Rattle.writing.specs.Types.{upto, args_upto, before, closing}
use Rattle.writing.specs.Writing.{Adds}
use Rattle.writing.specs.declared.write.Message.{Message}
use Rattle.writing.proofs.Adding.{both, adds_none}
use Rattle.grammar.specs.Kinds as kinds

pub render-append : (ps qs : List Piece) → render (ps ++ qs) ≡ render ps ++ render qs
unfolding render
render-append [] qs = refl
render-append (lit w ∷ ps) qs = rw (render-append ps qs) (sym (append_assoc (bytes w) (render ps) (render qs)))
render-append (raw n ∷ ps) qs = rw (render-append ps qs) (sym (append_assoc n (render ps) (render qs)))
render-append (dec n ∷ ps) qs = rw (render-append ps qs) (sym (append_assoc (digits 39 n) (render ps) (render qs)))

-- ------------------------------------------------------------ what stands at the lines

-- trees that stand before line j, and others that don't
upto_parts : {S : List ℕ} {n i j : ℕ} {ps : Nodes} → HeldAll S n i j ps → (ns : Nodes) → upto j ns ≡ nil → upto j (joined ps ns) ≡ ps
unfolding upto joined
upto_parts no_tree ns e = e
upto_parts {i = i} {j} (tree (held h y r) rs) ns e =
    rw (lt-ltb i j (omega (arith, all_le r, all_le rs)), upto_parts rs ns e) refl

module _ {s S : List ℕ} (d : Loaded s S) where
  upto_none : (i j : ℕ) → j ≤ i → upto j (trees_from s i) ≡ nil
  unfolding upto
  upto_none i j h =
      there_or_not d i
      (λ w. let t = stands d i w in rw (t.next, t.here, le-ltb i j h) refl)
      (λ w. rw (none_beyond d i w) refl)

  args_next : (i j : ℕ) → i < line_count S → i < j → args_upto s i j ≡ amore (arg_at s i) (args_upto s (end_at S i) j)
  unfolding args_upto upto arg_at args_of
  args_next i j w h = let t = stands d i w in rw (t.next, t.here, lt-ltb i j h) refl

  -- a type's text
  type_said : (i : ℕ) → i < line_count S → render (type_text (type_at s i)) ≡ name_at s S i ++ render (args_text true (args_upto s (suc i) (end_at S i)))
  unfolding type_at type_of type_text render args_upto
  type_said i w =
      let t = stands d i w in
      rw (t.here, t.spells.name, t.behind, upto_parts t.held _ (upto_none (end_at S i) (end_at S i) (omega arith))) refl

  no_type : (i : ℕ) → line_count S ≤ i → render (type_text (type_at s i)) ≡ []
  unfolding type_at type_of type_text args_of args_text render is same
  no_type i w = rw (beyond d i w) refl

-- ------------------------------------------------------------ the measure

-- the lines left and a phase, of which the lines weigh more
abbrev pub rank : ℕ → ℕ → ℕ → ℕ
rank n i phase = 3 * (n - i) + phase

-- ------------------------------------------------------------ `add_type`

module _ (s S : List ℕ) (i : ℕ) (d : Loaded s S) where
  pub type_none : (M : Message) (n : ℕ) → n ≡ line_count S → n ≤ i → M.length < 18446744073709551616 → Adds (render (type_text (type_at s i))) M M
  type_none M n e h l = rw (no_type d i (omega (arith, e))) (adds_none M l)

  module _ (n : ℕ) (counted : n ≡ line_count S) (below : i < n) where
    w : i < line_count S
    w = omega (arith, counted)

    pub type_falls : (t : ℕ) → rank (line_count S) i 0 ≡ t → rank (line_count S) (i + 1) 2 < t
    type_falls t e = omega (arith, w)

    pub type_args_lem : (j : ℕ) → j ≡ end_at S i → j ≤ line_count S
    type_args_lem j e = rw e (stands d i w).ends

    pub type_all : (x : List ℕ) (M N : Message) (j : ℕ) (O : Message) → length M.buffer.now < 18446744073709551616 → x ≡ name_at s S i → Adds x M N → j ≡ end_at S i
        → Adds (render (args_text true (args_upto s (i + 1) j))) N O → Adds (render (type_text (type_at s i))) M O
    unfolding before
    type_all x M N j O l e f g y =
        rw (type_said d i w, ← e, ← g, ← add-one i) (both x (render (args_text true (args_upto s (i + 1) j))) M N O l f y)

-- ------------------------------------------------------------ `add_arg`

module _ (s S : List ℕ) (i : ℕ) (d : Loaded s S) where
  -- k is the kind, and n that of a type
  module _ (k n : ℕ) (e : k ≡ kind_at S i) (m : n ≡ kinds.type) (M N : Message) where
    pub arg_type : k ≤ n → Adds (render (type_text (type_at s i))) M N → Adds (render (arg_text (arg_at s i))) M N
    unfolding arg_text
    arg_type q x = rw (arg_told s S i k d e, let z : k - kinds.type ≡ 0 = omega (arith, m) in z) x

    pub arg_num : (y : List ℕ) → kind_at S i ≡ kinds.num → y ≡ name_at s S i → Adds y M N → Adds (render (arg_text (arg_at s i))) M N
    unfolding arg_text render
    arg_num y q f x = rw (arg_told s S i k d e, e ∙ q, ← f, append-nil y) x

    pub arg_mofn : n < k → kind_at S i ≢ kinds.num → Adds (bytes "_") M N → Adds (render (arg_text (arg_at s i))) M N
    unfolding arg_text render
    arg_mofn p q x =
        let o : k ≢ kinds.num = λ z. q (sym e ∙ z) in
        rw (arg_told s S i k d e, let z : k - kinds.type ≡ suc (suc (k - kinds.mofn)) = omega (arith, m) in z) x

-- ------------------------------------------------------------ `add_args`

none_said : (o : Bool) → render (args_text o anil) ≡ closing o
unfolding args_text before closing render is same
none_said true = refl
none_said false = refl

more_said : (o : Bool) (p : Arg) (ps : Args) → render (args_text o (amore p ps)) ≡ bytes (before o) ++ render (arg_text p) ++ render (args_text false ps)
unfolding args_text render before
more_said true p ps = rw (render-append (arg_text p) (args_text false ps)) (sym (append_assoc (bytes "<") (render (arg_text p)) (render (args_text false ps))))
more_said false p ps = rw (render-append (arg_text p) (args_text false ps)) (sym (append_assoc (bytes ", ") (render (arg_text p)) (render (args_text false ps))))

module _ (s S : List ℕ) (i j : ℕ) (o : Bool) (d : Loaded s S) (h : j ≤ line_count S) where
  pub args_none : (M N : Message) → j ≤ i → Adds (closing o) M N → Adds (render (args_text o (args_upto s i j))) M N
  unfolding args_upto args_of
  args_none M N e x = rw (upto_none d i j e, none_said o) x

  module _ (e : i < j) where
    module _ (n : ℕ) (f : n ≡ end_at S i) where
      pub args_falls : (t : ℕ) → rank (line_count S) i 2 ≡ t → rank (line_count S) n 2 < t
      args_falls t q = omega (arith, all_le (stands d i (omega arith)).held)

      pub args_all : (M N O P : Message) → length M.buffer.now < 18446744073709551616 → Adds (bytes (before o)) M N
          → Adds (render (arg_text (arg_at s i))) N O → Adds (render (args_text false (args_upto s n j))) O P
          → Adds (render (args_text o (args_upto s i j))) M P
      unfolding before
      args_all M N O P l p q r =
          let next : args_upto s i j ≡ amore (arg_at s i) (args_upto s n j) = rw f (args_next d i j (omega arith) e) in
          rw (next, more_said o (arg_at s i) (args_upto s n j)) (both _ _ M O P l (both _ _ M N O l p q) r)
