-- The message of a refusal, and what `check` says, as the answer has them. Assumes nothing.
use mathlib.Core.Path.{◌≡◌, refl, sym, ap, ◌∙◌}
use mathlib.Core.List.{List, [], ◌∷◌}
use Prim.Native.Nat.{ℕ, zero, suc, ◌+◌, ◌≤◌, ◌<◌}
use native.Mathlib.Omega.{arith}
use mir.Val.{Fits}
use mir.Syntax.{w32}
use lib.ListN.{length}
use borrow.Author.Tests.{le-leb, lt-leb}
use Rattle.std.specs.Prelude.{Result, Ok, Err}
use Rattle.sheet.specs.Load.{copies}
use Rattle.sheet.proofs.Due.{length-copies}
use Rattle.rules.specs.Text.{render}
use Rattle.rules.specs.Kept.{Table, count}
use Rattle.rules.specs.Check.{check}
use Rattle.rules.specs.Standing.{model_in, Loaded}
use Rattle.rules.specs.Verdict.{longest, overwritten, fitting, answer_for}
use Rattle.rules.proofs.Binding.{kept-length}
use Rattle.refusals.specs.Refusal.{refusal_of, done_of}
use Rattle.refusals.specs.declared.refusal.Refusal.{Refusal}
use Rattle.writing.specs.Writing.{Adds}
use Rattle.writing.specs.declared.write.Message.{Message}
use Rattle.writing.proofs.Adding.{told_all, all_written}
use Rattle.message.proofs.Lengths.{message_short}
use Rattle.refusals.specs.Numbers.{Numbers}
use Rattle.checking.specs.Walk.{SheetIn}
use Rattle.typing.specs.Asks.{Does}
use Rattle.verdict.specs.Outcome.{answer_of, text_of, Few, Exact, judged, Judges}
use Rattle.verdict.specs.declared.Answer.{Answer}

-- ------------------------------------------------------------ a message

written_none : (B : List ℕ) → overwritten [] B ≡ B
unfolding overwritten
written_none B = refl

-- a buffer that the message of r doesn't fit stays as it is
pub told_long : (s : List ℕ) (r : Refusal) (B : List ℕ) (n : ℕ) → n ≡ length (text_of s r) → length B < n → B ≡ overwritten (fitting (length B) (text_of s r)) B
unfolding fitting
told_long s r B n e g = sym (rw (lt-leb (length (text_of s r)) (length B) (omega (arith, e))) (written_none B))

-- A message of r: `add_message` made N of M, a message of no bytes. B is the lent buffer.
module _ (s S : List ℕ) (r : Refusal) (loaded : Loaded s S) (h : Few s S) where
  text_short : length (text_of s r) ≤ longest
  unfolding text_of
  text_short = message_short s S r loaded h.small h.few

  pub told_length : (M N : Message) → M.length ≡ 0 → Adds (render (refusal_of s r).text) M N → N.length ≡ length (text_of s r)
  unfolding text_of
  told_length M N z x = let b = text_short in omega (arith, x.told, z, told_all (M.length + length (text_of s r)) (omega (arith, z)))

  pub told_fits : (M N : Message) → M.length ≡ 0 → Adds (render (refusal_of s r).text) M N → Fits w32 N.length
  told_fits M N z x = omega (arith, told_length M N z x, text_short)

  pub told_whole : (B : List ℕ) (M N : Message) → M.buffer.now ≡ B → M.length ≡ 0 → Adds (render (refusal_of s r).text) M N → (n : ℕ) → n ≡ length (text_of s r) → n ≤ length B
      → N.buffer.now ≡ overwritten (fitting (length B) (text_of s r)) B
  unfolding fitting text_of overwritten
  told_whole B M N b z x n e g =
      let k : length (text_of s r) ≤ length B = omega (arith, e) in
      rw (le-leb (length (text_of s r)) (length B) k, ← b) (all_written (text_of s r) M N z x (rw b k))

-- ------------------------------------------------------------ what `check` says

pub exact_sheet : (s S : List ℕ) (T : Table) → Exact s S T → SheetIn S T
exact_sheet s S T h = record { few = h.lines.few; room = omega (arith, h.bytes) }

count_most : (T : Table) → count T ≤ length T
unfolding count
count_most [] = omega arith
count_most (zero ∷ T) = omega (arith, count_most T)
count_most (suc c ∷ T) = omega (arith, count_most T)

-- `check` answered d on the table T, and left U.
module _ (s S : List ℕ) (T U : Table) (d : Result Unit Refusal) (x : Does s (check (model_in s)) T d U) where
  done_length : length U ≡ length T
  done_length = sym (ap (λ o. length o.table) x.gives) ∙ kept-length (check (model_in s)) T

  pub count_fits : (n : ℕ) → Exact s S T → n ≡ count U → Fits w32 n
  count_fits n h e = omega (arith, h.lines.few, h.bytes, done_length, count_most U)

  judged_told : (most : ℕ) → judged s T most ≡ answer_for most (done_of s d) U
  unfolding judged
  judged_told most = rw x.gives refl

  pub judges_accepted : (M : List ℕ) (n : ℕ) → d ≡ Ok tt → n ≡ count U → Judges s T M (record { number = 0; place = 0; count = n; length = 0 }) U M
  unfolding answer_for answer_of done_of
  judges_accepted M n e c =
      let j = rw e at (judged_told (length M)) in
      record { answer = rw (j, c) refl; short = omega arith; types = rw j refl; message = rw j (sym (written_none M)) }

  pub judges_refused : (r : Refusal) (M N : List ℕ) (k p n l : ℕ) → Loaded s S → Exact s S T → d ≡ Err r → Numbers r k → p ≡ (refusal_of s r).place → n ≡ count U → l ≡ length (text_of s r)
      → N ≡ overwritten (fitting (length M) (text_of s r)) M
      → Judges s T M (record { number = k; place = p; count = n; length = l }) U N
  unfolding answer_for answer_of done_of text_of
  judges_refused r M N k p n l loaded h e a b c f g =
      let j = rw e at (judged_told (length M)) in
      record { answer = rw (j, a.numbers s, b, c, f) refl; short = rw f (text_short s S r loaded h.lines); types = rw j refl; message = rw j g }

-- ------------------------------------------------------------ a table that is cleared before

-- the table T is now Z, zeros
module _ (s S : List ℕ) (T Z : Table) (e : Z ≡ copies (length T) 0) where
  pub exact_cleared : Exact s S T → Exact s S Z
  exact_cleared h = record { lines = h.lines; bytes = ap length e ∙ length-copies (length T) 0 ∙ h.bytes }

  pub judges_cleared : (M : List ℕ) (r : Answer) (U N : List ℕ) → Judges s Z M r U N → Judges s (copies (length T) 0) M r U N
  judges_cleared M r U N x = rw (← e) x
