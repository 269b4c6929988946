use Rattle.dict_gen.proofs.ScriptLaws.{line_again}
use Rattle.dict_gen.proofs.lines.put_times.Goals as goal

pub loop-n-preserved : goal.loop-n-preserved
loop-n-preserved c = line_again _ _ _ c.loop-n._n c.args.line.now c.loop-n.invariant c.in_ok-put.ensures
