-- What kind of command a command is.
use Rattle.std.specs.Prelude.{Bool, true, false}
use Rattle.script_lines.specs.declared.command.Command.{Command}
use Rattle.script_lines.specs.declared.command.Command.TheVariants.{Set, Clear, OpenList, Add, Remove, Override, Release, Undo, Redo, Get, Final, Stamp, Touched, Missing, Watch, Unwatch, Quit}
use Rattle.script_lines.specs.declared.kind.Kind.{Kind}
use Rattle.script_lines.specs.declared.kind.Kind.TheVariants as kinds

abbrev pub kind_of : Command → Kind
kind_of (Set slot value) = kinds.Change
kind_of (Clear slot) = kinds.Change
kind_of (OpenList slot) = kinds.Change
kind_of (Add slot) = kinds.Change
kind_of (Remove slot member) = kinds.Change
kind_of (Override slot value) = kinds.Change
kind_of (Release slot) = kinds.Change
kind_of Undo = kinds.Change
kind_of Redo = kinds.Change
kind_of (Get slot) = kinds.Question
kind_of (Final slot) = kinds.Question
kind_of (Stamp slot) = kinds.Question
kind_of Touched = kinds.Question
kind_of (Missing slot) = kinds.Missing
kind_of (Watch name slot) = kinds.Watch
kind_of (Unwatch name slot) = kinds.Watch
kind_of Quit = kinds.Quit

-- the command makes a change where it isn't refused; every other one asks, or ends the script
abbrev pub is_change : Kind → Bool
is_change kinds.Change = true
is_change kinds.Question = false
is_change kinds.Missing = false
is_change kinds.Watch = false
is_change kinds.Quit = false
