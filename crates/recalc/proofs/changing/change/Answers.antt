use Rattle.std.proofs.Common.{◌∙◌}
use Rattle.dictionary.specs.AcceptedParts.{names_of}
use Rattle.recalc.specs.Updates.{answers_after, dict_of, undo_of}
use Rattle.recalc.proofs.EngineLaws.{changed_count, changed_results, changed_stamps}
use Rattle.recalc.proofs.changing.change.Goals as goal

pub returns-in-Ok-clause-stands : goal.returns-in-Ok-clause-stands
returns-in-Ok-clause-stands g c =
    let u = c.args.update.now in
    record {
      graph = c.requires.before.graph;
      results = changed_results (names_of u.dict.now.checks) (dict_of u) c.source-source.ensures.is_accepted (undo_of u) (answers_after u) c.requires.update.undone
          u.gone c.requires.update.gone u.stamp c.args.state.now c.requires.before.results
          c.go_on.new.state c.in-Ok.ensures.done c.by_rank.result.now c.by_rank.ensures c.forget.new.store.cells c.forget.ensures;
      idle = record { none_waits = c.in-Ok.ensures.done.none; nothing_kept = c.clear.ensures };
      places = c.go_on.ensures.places ∙ c.requires.before.places;
    }

pub returns-in-Ok-clause-stamps : goal.returns-in-Ok-clause-stamps
returns-in-Ok-clause-stamps g c =
    let u = c.args.update.now in
    changed_stamps (names_of u.dict.now.checks) (dict_of u) c.source-source.ensures.is_accepted (undo_of u) (answers_after u) c.requires.update.undone
    u.gone c.requires.update.gone u.stamp c.args.state.now c.requires.before.results
    c.go_on.new.state c.in-Ok.ensures.done c.by_rank.result.now c.by_rank.ensures c.forget.new.store.cells c.forget.ensures

pub returns-in-Ok-clause-touched : goal.returns-in-Ok-clause-touched
returns-in-Ok-clause-touched g c =
    let u = c.args.update.now in
    c.len-touched.ensures ∙ changed_count (names_of u.dict.now.checks) (dict_of u) c.source-source.ensures.is_accepted (undo_of u) (answers_after u) c.requires.update.undone
    u.gone c.requires.update.gone u.stamp c.args.state.now c.requires.before.results
    c.go_on.new.state c.in-Ok.ensures.done c.by_rank.result.now c.by_rank.ensures c.forget.new.store.cells c.forget.ensures
