use Rattle.std.proofs.Common.{inl, inr, refl, subst, arith}
use Rattle.graph_session.specs.Rules.{rules, tree_of}
use Rattle.save_file.specs.Loading.{IsSavedText, RefusesText}
use Rattle.fact_graph_c.proofs.DeskOpeningLaws.{loads_desk_over}
use Rattle.fact_graph_c.proofs.OpeningLaws.{refuses_over}
use Rattle.fact_graph_c.proofs.desk_opening.begin_loaded.Goals as goal

pub returns-then-saved-gt-SAVED_LIMIT : goal.returns-then-saved-gt-SAVED_LIMIT
returns-then-saved-gt-SAVED_LIMIT c = record { loaded = tt; refused = inl (omega arith, refl) }

pub returns-in-Ok : goal.returns-in-Ok
returns-in-Ok c =
    let over = loads_desk_over (IsSavedText (tree_of (rules c.args.dict))) _ c.args.saved.now _ c.begin.result c.in-Ok.ensures.loaded (c.begin.ensures.begun, c.begin.ensures.memory) in
    record { loaded = over.0; refused = over.1 }

pub returns-in-Err : goal.returns-in-Err
returns-in-Err c = record {
  loaded = tt;
  refused = refuses_over _ _ c.in-Err.fault c.not_resumed.result
      (λ n is. inr (omega arith, subst (RefusesText (tree_of (rules c.args.dict)) c.args.saved.now) is c.in-Err.ensures.refused)) c.not_resumed.ensures;
}
