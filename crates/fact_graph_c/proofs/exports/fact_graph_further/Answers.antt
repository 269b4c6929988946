use Rattle.std.proofs.Common.{◌≡◌, ap, subst, ◌∙◌, IfOk}
use Rattle.fact_graph_c.specs.Answering.{said}
use Rattle.fact_graph_c.specs.Openings.{IsFurther, IsWantOfMemory}
use Rattle.fact_graph_c.specs.declared.engine.Engine.{Engine}
use Rattle.fact_graph_c.proofs.CallLaws.{tells}
use Rattle.fact_graph_c.proofs.exports.fact_graph_further.Goals as goal

pub returns-clause-begun : goal.returns-clause-begun
returns-clause-begun c =
    let engine : c.deref_mut.result.now ≡ c.args.graph.value = c.deref_mut.ensures.value ∙ c.into_box-engine.ensures in
    tells (IsFurther c.args.graph.value) IsWantOfMemory c.args.further.now c.hand_out.new.graph c.hand_out.new.fault c.begin_further-begun.result
    (subst (λ (of : Engine). IfOk c.begin_further-begun.result (λ e. IsFurther of e.value)) engine c.begin_further-begun.ensures.begun)
    c.begin_further-begun.ensures.memory c.hand_out.ensures.begun c.hand_out.ensures.output

pub returns-clause-same : goal.returns-clause-same
returns-clause-same c =
    let engine : c.deref_mut.result.now ≡ c.args.graph.value = c.deref_mut.ensures.value ∙ c.into_box-engine.ensures in
    record {
      new = _;
      back = c.keep.ensures;
      session = c.begin_further-begun.ensures.session ∙ ap (λ (e : Engine). e.session) engine;
      watches = c.begin_further-begun.ensures.watches ∙ ap (λ (e : Engine). e.watches) engine;
      over = c.begin_further-begun.ensures.open ∙ ap (λ (e : Engine). e.over) engine;
      text = c.begin_further-begun.ensures.text ∙ ap said engine;
    }
