use Rattle.std.proofs.Common.{◌∙◌}
use Rattle.interview_ends.proofs.ending.end_by_refused_line.Goals as goal

pub returns : goal.returns
returns g c =
    let text = c.bytes.ensures.value ∙ c.print_saved_refused.ensures in
    record { text = rw text at c.end_by.ensures.text; puts = rw text at c.end_by.ensures.puts }
