-- How many steps a script takes at most.
use Rattle.std.specs.Prelude.{ℕ, ◌+◌, ◌≤◌, List, Option}
use Rattle.std.specs.Io.KnownBytes.{Consumes}
use Rattle.script_lines.specs.Lines.{script_lines}
use Rattle.answers.specs.Answered.{Answered}
use Rattle.dict_meaning.specs.Accepted.{Accepted}
use Rattle.script_runs.specs.Meanings.{Meaning}

-- a run took at most those of the lines of what it read
abbrev pub StepsWithin : (Accepted → Answered → Answered → ℕ) → Meaning → Option (List ℕ) → Option (List ℕ) → ℕ → ℕ → Type 0
StepsWithin most m left left_now steps steps_now =
    (bytes : List ℕ) × Consumes left left_now bytes × (steps_now ≤ steps + m.steps most (script_lines bytes))
