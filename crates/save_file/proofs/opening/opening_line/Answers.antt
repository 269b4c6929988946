use Rattle.save_file.proofs.Common.{ap, line_of, map, opens_fact, option_map, rules, sym, tree_of, ◌∙◌}
use Rattle.save_file.proofs.CarriedAnswers.{none_opens}
use Rattle.saved_text.proofs.CarriedSteps.{found_of}
use Rattle.save_file.proofs.opening.opening_line.Goals as goal

pub returns-then-not-is_list : goal.returns-then-not-is_list
returns-then-not-is_list c = sym (none_opens (tree_of (rules c.args.dict.now)) c.args.fact (map line_of c.args.lines.now) (sym c.is_list.ensures ∙ c.if-not-is_list.true))

pub returns : goal.returns
returns c = ap (option_map line_of) c.first_line.ensures ∙ found_of (opens_fact (tree_of (rules c.args.dict.now)) c.args.fact) c.args.lines.now
