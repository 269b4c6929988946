use Rattle.std.proofs.Common.{◌≡◌, subst, ◌∙◌}
use Rattle.fact_graph_c.specs.declared.engine.Engine.{Engine}
use Rattle.fact_graph_c.specs.Saving.{IsSaved}
use Rattle.fact_graph_c.specs.Saying.{Says}
use Rattle.fact_graph_c.proofs.exports.fact_graph_save.Goals as goal

pub returns : goal.returns
returns c =
    let engine : c.deref_mut.result.now ≡ c.args.graph.value = c.deref_mut.ensures.value ∙ c.into_box-engine.ensures in
    record {
      new = c.save_answers-outcome.new.engine;
      outcome = c.save_answers-outcome.result;
      says = subst (λ (e : Engine). Says (IsSaved e) e c.save_answers-outcome.new.engine c.save_answers-outcome.result) engine c.save_answers-outcome.ensures;
      back = c.hand_back.ensures.back;
      number = c.hand_back.ensures.number;
      size = c.hand_back.ensures.size;
    }
