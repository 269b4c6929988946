-- Lines that were read, each by its bytes, or as `None` where it is long.
use Rattle.std.specs.Prelude.{ℕ, List, map, Option, None, Some, Vec}
use Rattle.std.specs.declared.alloc.Global.{Global}
use Rattle.script_lines.specs.Lines.{ScriptLine, whole, long}

abbrev pub line_read : Option (Vec ℕ Global) → ScriptLine
line_read (Some line) = whole line.items
line_read None = long

abbrev pub lines_read : List (Option (Vec ℕ Global)) → List ScriptLine
lines_read lines = map line_read lines
