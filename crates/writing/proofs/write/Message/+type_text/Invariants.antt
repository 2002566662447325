use Rattle.sheet.specs.Scratch.{line_count}
use Rattle.writing.proofs.Arguments.{rank}
use Rattle.writing.proofs.write.Message.+type_text.Given as goal

abbrev pub decreases-add_arg : goal.decreases-add_arg
decreases-add_arg l = rank (line_count l.sheet.now.lines.now) l.i 1

abbrev pub decreases-add_args : goal.decreases-add_args
decreases-add_args l = rank (line_count l.sheet.now.lines.now) l.i 2

abbrev pub decreases-add_type : goal.decreases-add_type
decreases-add_type l = rank (line_count l.sheet.now.lines.now) l.i 0
