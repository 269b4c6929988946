use Rattle.std.proofs.Common.{subst}
use Rattle.script_lines.specs.Parsing.{GivesHeard, heard}
use Rattle.script_lines.proofs.CommandLaws.{reads_from_heard}
use Rattle.script_lines.proofs.reading.command_of.Goals as goal

pub returns-clause-line : goal.returns-clause-line
returns-clause-line c =
    reads_from_heard c.args.line.now c.read_shorn.result (subst (λ text. GivesHeard (heard text) c.read_shorn.result) c.without_return.ensures c.read_shorn.ensures)
