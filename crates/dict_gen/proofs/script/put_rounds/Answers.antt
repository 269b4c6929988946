use Rattle.dict_gen.proofs.ScriptLaws.{round_again}
use Rattle.dict_gen.proofs.script.put_rounds.Goals as goal

pub loop-before-preserved : goal.loop-before-preserved
loop-before-preserved c = round_again _ _ _ c.args.members c.args.n c.loop-before.before c.loop-before.invariant c.in_ok-put_round.ensures
