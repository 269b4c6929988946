use Rattle.std.proofs.Common.{◌≡◌, ◌∙◌}
use Rattle.dictionary.specs.AcceptedParts.{accepted}
use Rattle.interview_ends.specs.DefinedEnds.{defined_accepted}
use Rattle.interview_ends.specs.FaultLines.{accepted_line}
use Rattle.interview_ends.proofs.checking.end_accepted.Goals as goal

pub returns : goal.returns
returns g c =
    let text : c.bytes.result.now ≡ (defined_accepted (accepted c.args.dictionary.now)).text =
    c.bytes.ensures.value ∙ c.print_accepted.ensures ∙ (λ i. accepted_line (c.fact_count.ensures i) (c.node_count.ensures i)) in
    record { text = rw text at c.end_by.ensures.text; puts = rw text at c.end_by.ensures.puts }
