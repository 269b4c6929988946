use Rattle.std.proofs.Common.{◌≡◌, subst, ◌∙◌}
use Rattle.fact_graph_c.specs.declared.engine.Engine.{Engine}
use Rattle.fact_graph_c.specs.SlotReads.{IsReads}
use Rattle.fact_graph_c.specs.Saying.{Says}
use Rattle.fact_graph_c.proofs.exports.fact_graph_reads.Goals as goal

pub returns : goal.returns
returns c =
    let engine : c.deref_mut.result.now ≡ c.args.graph.value = c.deref_mut.ensures.value ∙ c.into_box-engine.ensures in
    record {
      new = c.say_reads-outcome.new.engine;
      outcome = c.say_reads-outcome.result;
      says = subst (λ (e : Engine). Says (IsReads e c.args.slot.now) e c.say_reads-outcome.new.engine c.say_reads-outcome.result) engine c.say_reads-outcome.ensures;
      back = c.hand_back.ensures.back;
      number = c.hand_back.ensures.number;
      size = c.hand_back.ensures.size;
    }
