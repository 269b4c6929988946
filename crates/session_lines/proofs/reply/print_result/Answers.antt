use Rattle.std.proofs.Common.{ap, sym, ◌∙◌}
use Rattle.std.specs.Prelude.{option_copied}
use Rattle.session_lines.proofs.PrintLaws.{result_listed}
use Rattle.session_lines.proofs.reply.print_result.Goals as goal

pub print_res-requires-clause-listed : goal.print_res-requires-clause-listed
print_res-requires-clause-listed g c =
    result_listed c.args.session.now.dict c.args.session.now.timeline.now c.args.slot c.in-Some.res.now c.dict.result.now c.source-source.result.now c.enums.result.now c.dict.ensures c.source-source.ensures.value c.enums.ensures c.source-source.ensures.is_accepted c.answers-answers.ensures.fit
    (sym c.result.ensures ∙ ap option_copied c.in-Some.is)
