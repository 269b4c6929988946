use Rattle.dict_gen.proofs.ScriptLaws.{all_there}
use Rattle.dict_gen.proofs.script.script.Goals as goal

pub returns : goal.returns
returns c = all_there c.args.n c.member_count-members.result _ _ _ _ _ c.new-text.ensures.items c.member_count-members.ensures c.in_ok-put_times.ensures c.in_ok-put_rounds.ensures c.in_ok-put_moves.ensures c.in_ok-put_moves-2.ensures
