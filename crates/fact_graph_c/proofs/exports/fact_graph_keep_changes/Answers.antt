use Rattle.std.proofs.Common.{◌≡◌, ap, ◌∙◌}
use Rattle.graph_session.specs.SessionView.{bounded_to}
use Rattle.fact_graph_c.specs.declared.engine.Engine.{Engine}
use Rattle.fact_graph_c.specs.Answering.{said}
use Rattle.fact_graph_c.proofs.exports.fact_graph_keep_changes.Goals as goal

pub returns : goal.returns
returns c =
    let engine : c.deref_mut.result.now ≡ c.args.graph.value = c.deref_mut.ensures.value ∙ c.into_box-engine.ensures in
    record {
      new = _;
      back = c.keep.ensures;
      session = c.keep_changes.ensures ∙ ap (λ (e : Engine). bounded_to c.args.most e.session) engine;
      watches = ap (λ (e : Engine). e.watches) engine;
      over = ap (λ (e : Engine). e.over) engine;
      text = ap said engine;
    }
