use Rattle.save_file.proofs.Common.{found_number, rules, sym, tree_of}
use Rattle.save_file.proofs.reason.reason_of_value.Goals as goal

pub refusal_of-requires-clause-number : goal.refusal_of-requires-clause-number
refusal_of-requires-clause-number g c = found_number (tree_of (rules c.args.dict.now)) c.args.path.now c.in-Some.fact (sym c.in-Some.ensures)
