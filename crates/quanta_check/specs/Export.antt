-- The answers as C has them.
use Rattle.std.specs.Prelude.{ℕ, Result, Ok, Err}
use Rattle.sheet.specs.declared.refusal.Refused.{Refused}
use Rattle.quanta_check.specs.declared.load.Load.{Load}

unfoldable pub load_of : Result ℕ Refused → Load
load_of (Ok n) = record { number = 0; line = 0; lines = n }
load_of (Err r) = record { number = r.number; line = r.line; lines = 0 }
