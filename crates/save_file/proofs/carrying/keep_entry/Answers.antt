use Rattle.save_file.proofs.Common.{answered, kept_value, rules, tree_of}
use Rattle.save_file.proofs.CarriedAnswers.{entry_set, kept_takes, stands_there}
use Rattle.save_file.proofs.carrying.keep_entry.Goals as goal

pub set_value-requires : goal.set_value-requires
set_value-requires g c =
    let r = rules c.args.dict.now in
    stands_there (tree_of r) (kept_value r) (kept_takes r) (answered c.args.carried.now.answers) c.args.line.now c.in-Ok-Some.slot c.in-Ok-Some.value (rw c.in-Ok-Some.field-0-is at c.in-Ok-Some.ensures.worth) c.requires.placed

pub returns-in-Ok-Some-clause-entered : goal.returns-in-Ok-Some-clause-entered
returns-in-Ok-Some-clause-entered g c =
    let r = rules c.args.dict.now in
    entry_set (tree_of r) (kept_value r) (kept_takes r) (answered c.args.carried.now.answers) c.args.line.now c.in-Ok-Some.slot c.in-Ok-Some.value (rw c.in-Ok-Some.field-0-is at c.in-Ok-Some.ensures.worth) c.set_value.result _ c.set_value.ensures.new
