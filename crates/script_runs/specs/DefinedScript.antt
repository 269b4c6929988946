-- What a script is to give: the texts of the lines that are answered, and the status at its end.
use Rattle.std.specs.Prelude.{ℕ, List, length, take, nat_le, if◌then◌else◌}
use Rattle.script_lines.specs.Lines.{ScriptLine, script_lines, ended_lines}
use Rattle.script_runs.specs.declared.status.Status.{Status}
use Rattle.script_runs.specs.declared.status.Status.TheVariants.{Done, ScriptTooLong}
use Rattle.script_runs.specs.Meanings.{Meaning, texts}

-- a text, and the status that comes with it
pub record Defined : Type 0 where
  pub text : List ℕ
  pub status : Status

abbrev pub script_limit : ℕ
script_limit = 67108864

-- the lines that are answered: all of a script within the limit, and else those that end within it
unfoldable pub answered_lines : List ℕ → List ScriptLine
answered_lines script = if nat_le (length script) script_limit then script_lines script else ended_lines (take script_limit script)

-- What a script is to give whose lines mean this: the texts of these lines; past the limit it is too long, but where one of them is
-- `quit`.
unfoldable pub defined_script : Meaning → List ℕ → Defined
defined_script m script = record {
  text = texts m (answered_lines script);
  status = if nat_le (length script) script_limit then Done else if m.over (answered_lines script) then Done else ScriptTooLong;
}
