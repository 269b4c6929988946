use Rattle.std.proofs.Common.{◌∙◌}
use Rattle.interview_ends.proofs.LoadLaws.{summed_of_load}
use Rattle.interview_ends.proofs.load_run.summary_of_load.Goals as goal

pub returns : goal.returns
returns g c =
    let made = c.in_ok-made.ensures in
    record { summary = summed_of_load _ _ _ _ _ _ _ _ (record { facts = made.tree; is_accepted = made.is_accepted; checks = made.checks }) c.fact_count-facts.ensures c.node_count-nodes.ensures (rw c.as_slice.ensures.value at c.line_count-lines.ensures) made.script (c.bytes.ensures ∙ c.in_ok-replies.ensures.replies) c.summary.result c.summary.ensures }
