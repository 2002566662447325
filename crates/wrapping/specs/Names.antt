-- The names that hold wrapping values behind the statements that are bound.
use Rattle.std.specs.Prelude.{List}
use Rattle.rules.specs.Text.{Name}
use Rattle.wrapping.specs.Marks.{wrapped_names}
use Rattle.wrapping.specs.declared.marks.Wrapped.{Wrapped}

abbrev pub names_in : Wrapped → List Name
names_in w = wrapped_names w.sheet.bytes.now w.sheet.lines.now w.marks w.bound w.body
