use Rattle.std.proofs.Common.{◌≡◌, ap, subst, ◌∙◌}
use Rattle.fact_graph_c.specs.DeskAnswers.{AnswersDesk}
use Rattle.fact_graph_c.specs.declared.desk_engine.DeskEngine.{DeskEngine}
use Rattle.fact_graph_c.proofs.desk_exports.fact_graph_desk_answer.Goals as goal

pub returns : goal.returns
returns c =
    let engine : c.deref_mut.result.now ≡ c.args.desk.value = c.deref_mut.ensures.value ∙ c.into_box-engine.ensures in
    record {
      new = c.answer_at_desk-outcome.new.engine;
      outcome = c.answer_at_desk-outcome.result;
      answered = subst (λ (e : DeskEngine). AnswersDesk e c.answer_at_desk-outcome.new.engine c.args.line.now c.answer_at_desk-outcome.result) engine c.answer_at_desk-outcome.ensures.answered;
      dict = c.answer_at_desk-outcome.ensures.dict ∙ ap (λ (e : DeskEngine). e.desk.session.dict) engine;
      back = c.hand_back.ensures.back;
      number = c.hand_back.ensures.number;
      size = c.hand_back.ensures.size;
    }
