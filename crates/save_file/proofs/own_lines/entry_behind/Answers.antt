use Rattle.save_file.proofs.Common.{found_number, rules, sym, tree_of}
use Rattle.save_file.proofs.own_lines.entry_behind.Goals as goal

pub is_own_value-requires : goal.is_own_value-requires
is_own_value-requires c = found_number (tree_of (rules c.args.dict.now)) c.args.line.now.path c.in-Some.fact (sym c.in-Some.ensures)
