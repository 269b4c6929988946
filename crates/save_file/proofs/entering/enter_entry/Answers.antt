use Rattle.save_file.proofs.Common.{answered, rules, taken_value, tree_of}
use Rattle.save_file.proofs.CarriedAnswers.{entry_set, stands_there, taken_takes}
use Rattle.save_file.proofs.entering.enter_entry.Goals as goal

pub set_value-requires : goal.set_value-requires
set_value-requires c =
    let d = tree_of (rules c.args.dict.now) in
    stands_there d (taken_value d) (taken_takes d) (answered c.args.answers.now) c.args.line.now c.in-Ok-Some.slot c.in-Ok-Some.value (rw c.in-Ok-Some.field-0-is at c.in-Ok-Some.ensures.worth) c.requires.placed

pub returns-in-Ok-Some-clause-entered : goal.returns-in-Ok-Some-clause-entered
returns-in-Ok-Some-clause-entered c =
    let d = tree_of (rules c.args.dict.now) in
    entry_set d (taken_value d) (taken_takes d) (answered c.args.answers.now) c.args.line.now c.in-Ok-Some.slot c.in-Ok-Some.value (rw c.in-Ok-Some.field-0-is at c.in-Ok-Some.ensures.worth) c.set_value.result (answered c.set_value.new.answers) c.set_value.ensures.new
