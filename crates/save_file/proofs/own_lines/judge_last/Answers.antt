use Rattle.save_file.proofs.Common.{rules, tree_of}
use Rattle.save_file.proofs.OwnLaws.{line_last, none_last}
use Rattle.save_file.proofs.own_lines.judge_last.Goals as goal

pub returns-in-None-clause-position : goal.returns-in-None-clause-position
returns-in-None-clause-position c = none_last (tree_of (rules c.args.dict.now)) c.args.read.now c.args.last c.deref.result.now c.deref.ensures.value c.in-None.ensures.value

pub returns-in-Some-clause-position : goal.returns-in-Some-clause-position
returns-in-Some-clause-position c =
    line_last (tree_of (rules c.args.dict.now)) c.args.read.now c.args.last c.deref.result.now c.deref.ensures.value c.in-Some.line.now c.in-Some.ensures.value c.line_behind.result c.line_behind.ensures.position
