use Rattle.std.proofs.Common.{Some}
use Rattle.script_lines.proofs.CommandLaws.{no_text, text_says}
use Rattle.script_lines.proofs.reading.read_shorn.Goals as goal

pub returns-in_default-text_of : goal.returns-in_default-text_of
returns-in_default-text_of c = no_text c.args.line.now c.in-Some.first.now c.in-Some.ensures.value c.if-first-eq35.false c.in_default-text_of.ensures

pub returns : goal.returns
returns c =
    text_says c.args.line.now c.in-Some-text_of.text.now c.in-Some.first.now (Some c.in_ok-command.command) c.in-Some.ensures.value c.if-first-eq35.false c.in-Some-text_of.ensures.0 c.in-Some-text_of.ensures.1 c.in_ok-command.ensures
