-- What a host brings with it: the checks of texts that a dictionary may name, and the relations by which a slot may be
-- watched. Each has a name and a code.
use Rattle.std.specs.Prelude.{ℕ, Bool, false, List, [], ◌∷◌, codes}
use Rattle.script_lines.specs.Parsing.{Heard, nothing, bad_line, command, heard_in}
use Rattle.script_lines.specs.declared.lines.Ready.{Ready}
use Rattle.script_lines.specs.declared.lines.Ready.TheVariants.{NotYet, Whole, Long}
use Rattle.dictionary.specs.AcceptedParts.{Named}
use Rattle.graph_session.specs.Refusals.{asks_checks}

abbrev pub standard_checks : List Named
standard_checks = (codes "digits", 1) ∷ (codes "nine-digits", 2) ∷ (codes "printable-ascii", 3) ∷ (codes "trimmed", 4) ∷ []

abbrev pub standard_relations : List Named
standard_relations = (codes "changed", 1) ∷ (codes "completed", 2) ∷ (codes "lost", 3) ∷ (codes "raised", 4) ∷ []

-- ---- what asks checks

abbrev pub heard_asks_checks : Heard → Bool
heard_asks_checks nothing = false
heard_asks_checks bad_line = false
heard_asks_checks (command asked) = asks_checks asked

-- the line that is ready
abbrev pub line_asks_checks : Ready → List ℕ → Bool
line_asks_checks NotYet line = false
line_asks_checks Whole line = heard_asks_checks (heard_in line)
line_asks_checks Long line = false
