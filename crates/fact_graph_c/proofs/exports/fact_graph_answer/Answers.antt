use Rattle.std.proofs.Common.{◌≡◌, ap, subst, ◌∙◌}
use Rattle.fact_graph_c.specs.declared.engine.Engine.{Engine}
use Rattle.fact_graph_c.specs.Answering.{Answers}
use Rattle.fact_graph_c.proofs.exports.fact_graph_answer.Goals as goal

pub returns : goal.returns
returns c =
    let engine : c.deref_mut.result.now ≡ c.args.graph.value = c.deref_mut.ensures.value ∙ c.into_box-engine.ensures in
    record {
      new = c.answer-outcome.new.engine;
      outcome = c.answer-outcome.result;
      answered = subst (λ (e : Engine). Answers e c.answer-outcome.new.engine c.args.line.now c.answer-outcome.result) engine c.answer-outcome.ensures.answered;
      dict = c.answer-outcome.ensures.dict ∙ ap (λ (e : Engine). e.session.dict) engine;
      back = c.hand_back.ensures.back;
      number = c.hand_back.ensures.number;
      size = c.hand_back.ensures.size;
    }
