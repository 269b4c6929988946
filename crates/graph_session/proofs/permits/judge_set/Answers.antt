use Rattle.std.proofs.Common.{sym, ◌∙◌}
use Rattle.answers.specs.Meaning.{answered}
use Rattle.graph_session.specs.Rules.{rules}
use Rattle.graph_session.proofs.StepLaws.{set_then}
use Rattle.graph_session.proofs.permits.judge_set.Goals as goal

pub returns-in-Err-clause-refused : goal.returns-in-Err-clause-refused
returns-in-Err-clause-refused g c =
    rw (set_then (rules c.args.dict.now) (answered c.args.answers.now) c.args.path.now c.args.text.now c.in_ok-slot.slot c.in_ok-slot.ensures (sym c.is_answered.ensures ∙ c.if-not-is_answered.false)) c.in-Err.ensures.refused
