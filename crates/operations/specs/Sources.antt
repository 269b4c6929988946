-- The collection that a node goes through is the first operand of a strict operation.
use Rattle.std.specs.Prelude.{[]}
use Rattle.three_state.specs.Folds.{verdict_next}
use Rattle.three_state.specs.Results.{verdict_of}
use Rattle.three_state.specs.declared.res.Res.{Res}
use Rattle.three_state.specs.declared.strict.Verdict.{Verdict}

abbrev pub verdict_on_source : Res → Verdict
verdict_on_source source = verdict_next (verdict_of []) source
