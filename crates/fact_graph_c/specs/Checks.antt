-- The checks of a session's dictionary.
use Rattle.std.specs.Prelude.{◌≡◌, IsTrue}
use Rattle.dictionary.specs.AcceptedParts.{AcceptedParts, accepted}
use Rattle.dictionary.specs.Checks.{has_check}
use Rattle.session_lines.specs.Tables.{standard_checks}

-- where a fact names a check, it was accepted with the standard ones
abbrev pub HasStandardChecks : AcceptedParts → Type 0
HasStandardChecks k = IsTrue (has_check (accepted k).tree) → k.checks ≡ standard_checks
