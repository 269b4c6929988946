use Rattle.std.proofs.Common.{◌≡◌, ap, ◌∙◌}
use Rattle.fact_graph_c.specs.declared.engine.Engine.{Engine}
use Rattle.fact_graph_c.proofs.exports.fact_graph_trim.Goals as goal

pub returns : goal.returns
returns c =
    let engine : c.deref_mut.result.now ≡ c.args.graph.value = c.deref_mut.ensures.value ∙ c.into_box-engine.ensures in
    record {
      new = _;
      back = c.keep.ensures;
      session = ap (λ (e : Engine). e.session) engine;
      watches = ap (λ (e : Engine). e.watches) engine;
      over = ap (λ (e : Engine). e.over) engine;
      text = c.new.ensures;
    }
