-- One statement more is bound. Assumes nothing.
use mathlib.Core.Path.{◌≡◌, sym, ap, ◌∙◌}
use mathlib.Core.List.{List}
use Prim.Native.Nat.{ℕ, ◌+◌, ◌<◌}
use native.Mathlib.Numerals.{add-one}
use native.Mathlib.Omega.{arith}
use lib.ListN.{length}
use mir.Syntax.{w64}
use mir.Val.{Fits}
use Rattle.grammar.specs.Grammar as grammar
use Rattle.sheet.specs.Scratch.{end_at}
use Rattle.rules.specs.Standing.{Here}
use Rattle.rules.proofs.Standing.{row_more, skip_next}
use Rattle.rules.proofs.Forest.{skip_least}
use Rattle.env.specs.Force.{bind_next, InForce}
use Rattle.env.specs.declared.env.Env.{Env}

module _ (S : List ℕ) (env : Env) (f : InForce S env) (h : Here S grammar.Stmt env.next) where
  -- each statement takes a line
  pub bound_fits : length S < 18446744073709551616 → Fits w64 (env.bound + 1)
  bound_fits l = record { fits = omega (arith, f.next, skip_least f.locals, h.within) }

  pub bound_in_force : InForce S (bind_next S env)
  unfolding bind_next
  bound_in_force =
      record {
        params = f.params;
        locals = rw (add-one env.bound) at (row_more S grammar.Stmt env.bound env.body env.next f.locals h f.next);
        next = ap (end_at S) f.next ∙ sym (skip_next S env.bound env.body);
      }

  -- ... as the code tells it
  pub next_bound : (m : ℕ) → m ≡ end_at S env.next
      → InForce S (record { params = env.params; count = env.count; body = env.body; bound = env.bound + 1; next = m; genesis = env.genesis })
  unfolding bind_next
  next_bound m e = rw (e, add-one env.bound) bound_in_force
