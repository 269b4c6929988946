use Rattle.save_file.proofs.Common.{answered, found_number, rules, taken_value, tree_of}
use Rattle.save_file.proofs.CarriedAnswers.{slot_named, worth_found}
use Rattle.save_file.proofs.keeping.taken_worth.Goals as goal

pub taken_value-requires : goal.taken_value-requires
taken_value-requires c =
    let r = rules c.args.dict.now in
    found_number (tree_of r) c.args.line.now.path c.in-Ok.slot.fact (slot_named r (answered c.args.answers.now) c.args.line.now.path c.in-Ok.slot c.in-Ok.ensures).0

pub returns-in-Ok-taken_value-clause-worth : goal.returns-in-Ok-taken_value-clause-worth
returns-in-Ok-taken_value-clause-worth c =
    let slot = (slot_named (rules c.args.dict.now) (answered c.args.answers.now) c.args.line.now.path c.in-Ok.slot c.in-Ok.ensures).1 in
    worth_found (taken_value (tree_of (rules c.args.dict.now)) c.args.line.now.side) c.in-Ok.slot _ _ _ _ _ slot c.as_str.ensures.value c.in-Ok-taken_value.ensures.value c.at_slot.ensures
