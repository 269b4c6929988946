use Rattle.save_file.proofs.Common.{ap, line_of, position_behind, read_lines, rules, sym, tree_of, ◌∙◌}
use Rattle.save_file.proofs.own_lines.line_behind.Goals as goal

pub returns-in-Collection-clause-position : goal.returns-in-Collection-clause-position
returns-in-Collection-clause-position c =
    c.list_behind.ensures (read_lines c.args.read.now) ∙ ap (λ l. position_behind (tree_of (rules c.args.dict.now)) (read_lines c.args.read.now) c.args.last (line_of l)) (sym c.in-Collection.is)
