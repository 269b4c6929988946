use Rattle.std.proofs.Common.{◌≡◌, ap, ◌∙◌}
use Rattle.fact_graph_c.specs.declared.desk_engine.DeskEngine.{DeskEngine}
use Rattle.fact_graph_c.proofs.desk_exports.fact_graph_desk_trim.Goals as goal

pub returns : goal.returns
returns c =
    let engine : c.deref_mut.result.now ≡ c.args.desk.value = c.deref_mut.ensures.value ∙ c.into_box-engine.ensures in
    record {
      new = _;
      back = c.keep_desk.ensures;
      desk = ap (λ (e : DeskEngine). e.desk) engine;
      over = ap (λ (e : DeskEngine). e.over) engine;
      text = c.new.ensures;
    }
