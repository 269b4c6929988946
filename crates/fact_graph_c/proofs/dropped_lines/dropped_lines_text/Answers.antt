use Rattle.std.proofs.Common.{List, ap, map, ℕ, ◌++◌, ◌∙◌}
use Rattle.save_file.specs.Resuming.{dropped_line}
use Rattle.fact_graph_c.specs.DroppedLines.{dropped_lines_text}
use Rattle.fact_graph_c.proofs.TextLaws.{put_whole}
use Rattle.fact_graph_c.proofs.dropped_lines.dropped_lines_text.Goals as goal

pub returns-in-Ok : goal.returns-in-Ok
returns-in-Ok c =
    let text = dropped_lines_text (map dropped_line c.args.lines.now) in
    put_whole _ _ _ _ text c.in-Ok.ensures.sent ∙ ap (λ (t : List ℕ). t ++ text) c.new-text.ensures
