use Rattle.std.proofs.Common.{ap, sym, ◌∙◌}
use Rattle.std.specs.Prelude.{option_copied}
use Rattle.dictionary.specs.AcceptedParts.{accepted}
use Rattle.session_lines.proofs.PrintLaws.{result_listed, stands_with}
use Rattle.session_lines.proofs.reply.print_final.Goals as goal

pub is_final-requires : goal.is_final-requires
is_final-requires g c = stands_with (accepted c.args.session.now.dict) c.args.session.now.timeline.now c.args.slot c.in-Some.res.now (sym c.result.ensures ∙ ap option_copied c.in-Some.is)

pub print_finality-requires-clause-listed : goal.print_finality-requires-clause-listed
print_finality-requires-clause-listed g c =
    result_listed c.args.session.now.dict c.args.session.now.timeline.now c.args.slot c.in-Some.res.now c.dict.result.now c.source-source.result.now c.enums.result.now c.dict.ensures c.source-source.ensures.value c.enums.ensures c.source-source.ensures.is_accepted c.answers-answers.ensures.fit
    (sym c.result.ensures ∙ ap option_copied c.in-Some.is)
