use Rattle.std.proofs.Common.{◌≡◌, subst, ◌∙◌}
use Rattle.fact_graph_c.specs.DeskSaying.{DeskSays, IsDeskSaved}
use Rattle.fact_graph_c.specs.declared.desk_engine.DeskEngine.{DeskEngine}
use Rattle.fact_graph_c.proofs.desk_exports.fact_graph_desk_save.Goals as goal

pub returns : goal.returns
returns c =
    let engine : c.deref_mut.result.now ≡ c.args.desk.value = c.deref_mut.ensures.value ∙ c.into_box-engine.ensures in
    record {
      new = c.save_desk-outcome.new.engine;
      outcome = c.save_desk-outcome.result;
      says = subst (λ (e : DeskEngine). DeskSays (IsDeskSaved e) e c.save_desk-outcome.new.engine c.save_desk-outcome.result) engine c.save_desk-outcome.ensures;
      back = c.hand_back.ensures.back;
      number = c.hand_back.ensures.number;
      size = c.hand_back.ensures.size;
    }
