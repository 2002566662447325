-- A test of the Rust that the rules have no name for.
use Rattle.std.specs.Prelude.{Bool, false, Some, None}
use Rattle.rules.specs.Ast.{Expr}
use Rattle.rules.specs.Assets.{makes_asset}
use Rattle.rules.specs.Typing.{call_of}

unfoldable pub is_asset_call : Expr → Bool
is_asset_call e = elim (call_of e) [ None ↦ false | Some c ↦ makes_asset c.callee ]
