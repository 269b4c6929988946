use Rattle.std.proofs.Common.{◌≡◌, length}
use Rattle.fact_graph_c.specs.Answering.{said}
use Rattle.fact_graph_c.specs.Openings.{NotCarried, Resumes}
use Rattle.fact_graph_c.specs.declared.engine.Engine.{Engine}
use Rattle.fact_graph_c.specs.declared.fault.NotBegun.{NotBegun}
use Rattle.fact_graph_c.proofs.CallLaws.{sized, tells, unsized}
use Rattle.fact_graph_c.proofs.exports.fact_graph_resume.Goals as goal

pub returns-clause-begun : goal.returns-clause-begun
returns-clause-begun c =
    let size = c.size_of_text.result in
    let begun = c.open-begun.result in
    tells (λ (e : Engine). Resumes c.args.dictionary.now c.args.saved.now e × (size ≡ length (said e))) (λ (why : NotBegun). NotCarried c.args.dictionary.now c.args.saved.now why × (size ≡ 0)) c.args.graph.now c.hand_out.new.graph c.hand_out.new.fault begun
    (sized (Resumes c.args.dictionary.now c.args.saved.now) (λ (e : Engine). size ≡ length (said e)) begun c.open-begun.ensures.started c.size_of_text.ensures.some)
    (unsized (NotCarried c.args.dictionary.now c.args.saved.now) (size ≡ 0) begun c.open-begun.ensures.refused c.size_of_text.ensures.none)
    c.hand_out.ensures.begun c.hand_out.ensures.output
