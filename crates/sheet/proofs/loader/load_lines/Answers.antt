use mathlib.Core.Path.{◌∙◌, ap}
use Rattle.std.specs.Prelude.{Ok}
use Rattle.sheet.proofs.Loading.{read_all, read_none}
use Rattle.sheet.proofs.loader.load_lines.Goals as goal

pub returns-in-Err : goal.returns-in-Err
returns-in-Err c =
    let both = read_none _ _ _ _ _ _ c.in-Err.is c.scan.ensures c.fill.ensures in record { value = both.0; lines_after = both.1 }

pub returns : goal.returns
returns c =
    let both = read_all _ _ _ _ _ c.in_default.is c.requires c.scan.ensures c.close.ensures in record { value = ap Ok c.line_count.ensures ∙ both.0; lines_after = both.1 }
