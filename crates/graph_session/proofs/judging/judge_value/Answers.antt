use Rattle.dictionary.specs.AcceptedParts.{accepted, names_of}
use Rattle.graph_session.proofs.LimitLaws.{value_measured}
use Rattle.graph_session.proofs.judging.judge_value.Goals as goal

pub refused_by_limits-requires-clause-measured : goal.refused_by_limits-requires-clause-measured
refused_by_limits-requires-clause-measured g c =
    value_measured (names_of c.args.dict.now.checks) (accepted c.args.dict.now) c.source-accepted.ensures.is_accepted c.args.fact c.args.text.now c.in-Ok.value c.in-Ok.ensures
