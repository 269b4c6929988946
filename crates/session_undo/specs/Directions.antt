-- The two ways of a step over changes.
use Rattle.std.specs.Prelude.{List}
use Rattle.answers.specs.Change.{Change}
use Rattle.session_undo.specs.History.{ahead_of, behind}
use Rattle.session_undo.specs.declared.direction.Direction.{Direction}
use Rattle.session_undo.specs.declared.direction.Direction.TheVariants.{Back, Forth}
use Rattle.session_undo.specs.declared.history.History.{History}

abbrev pub reversed : Direction → Direction
reversed Back = Forth
reversed Forth = Back

-- the changes along which a step in a direction goes
abbrev pub changes_of : Direction → History → List Change
changes_of Back h = behind h
changes_of Forth h = ahead_of h
