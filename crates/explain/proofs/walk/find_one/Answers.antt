use Rattle.std.proofs.Common.{is_some, sym, ap, ◌∙◌}
use Rattle.dictionary.specs.AcceptedParts.{accepted}
use Rattle.dict_meaning.proofs.PlainLaws.{standing_have_results}
use Rattle.explain.specs.SessionContext.{tree_of}
use Rattle.explain.proofs.WalkLaws.{added_if, skipped}
use Rattle.explain.proofs.walk.find_one.Goals as goal

pub returns-in-None : goal.returns-in-None
returns-in-None g c =
    let s = c.args.session.now in
    skipped (tree_of s) s.timeline.now c.args.slot c.args.found.now c.args.todo.now.items
    (sym (standing_have_results (accepted s.dict) s.timeline.now c.args.slot) ∙ ap is_some (sym c.in-None.ensures))

pub returns-in_ok-push_if-in-Some : goal.returns-in_ok-push_if-in-Some
returns-in_ok-push_if-in-Some g c =
    let s = c.args.session.now in
    added_if (tree_of s) s.timeline.now c.args.slot c.args.found.now c.add.new.self
    (sym (standing_have_results (accepted s.dict) s.timeline.now c.args.slot) ∙ ap is_some (sym c.in-Some.ensures))
    c.in_ok-fresh-in-Some.ensures.added c.in_ok-fresh-in-Some.fresh _ _ c.in_ok-fresh-in-Some.ensures.fresh c.in_ok-push_if-in-Some.ensures
