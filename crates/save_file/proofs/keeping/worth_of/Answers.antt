use Rattle.save_file.proofs.Common.{answered, found_number, kept_value, rules, tree_of}
use Rattle.save_file.proofs.CarriedAnswers.{slot_named, worth_found}
use Rattle.save_file.proofs.keeping.worth_of.Goals as goal

pub value_of-requires-clause-number : goal.value_of-requires-clause-number
value_of-requires-clause-number g c =
    let r = rules c.args.dict.now in
    found_number (tree_of r) c.args.line.now.path c.in-Ok.slot.fact (slot_named r (answered c.args.answers.now) c.args.line.now.path c.in-Ok.slot c.in-Ok.ensures).0

pub returns-in-Ok-value_of-clause-worth : goal.returns-in-Ok-value_of-clause-worth
returns-in-Ok-value_of-clause-worth g c =
    let slot = (slot_named (rules c.args.dict.now) (answered c.args.answers.now) c.args.line.now.path c.in-Ok.slot c.in-Ok.ensures).1 in
    worth_found (kept_value (rules c.args.dict.now) c.args.line.now.side) c.in-Ok.slot _ _ _ _ _ slot c.as_str.ensures.value c.in-Ok-value_of.ensures.value c.at_slot.ensures
