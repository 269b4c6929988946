use Rattle.std.proofs.Common.{◌≡◌, subst, ◌∙◌}
use Rattle.fact_graph_c.specs.Answering.{rules_of}
use Rattle.fact_graph_c.specs.declared.engine.Engine.{Engine}
use Rattle.fact_graph_c.specs.Printing.{IsFactsText}
use Rattle.fact_graph_c.specs.Saying.{Says}
use Rattle.fact_graph_c.proofs.exports.fact_graph_facts.Goals as goal

pub returns : goal.returns
returns c =
    let engine : c.deref_mut.result.now ≡ c.args.graph.value = c.deref_mut.ensures.value ∙ c.into_box-engine.ensures in
    record {
      new = c.say_facts-outcome.new.engine;
      outcome = c.say_facts-outcome.result;
      says = subst (λ (e : Engine). Says (IsFactsText (rules_of e)) e c.say_facts-outcome.new.engine c.say_facts-outcome.result) engine c.say_facts-outcome.ensures;
      back = c.hand_back.ensures.back;
      number = c.hand_back.ensures.number;
      size = c.hand_back.ensures.size;
    }
