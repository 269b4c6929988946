use Rattle.std.proofs.Common.{ℕ, Bool, ◌≡◌, ◌≤◌, ◌+◌, subst, sym}
use Rattle.std.specs.Prelude.{OnOk}
use Rattle.dictionary.specs.AcceptedParts.{names_of}
use Rattle.recalc.specs.Running.{IsPropagation, IsRunning}
use Rattle.recalc.specs.Updates.{answers_after, dict_of, undo_of, update_setting, update_spread}
use Rattle.recalc.proofs.EngineLaws.{change_propagation, change_running, change_visits, change_weight}
use Rattle.recalc.proofs.changing.go_on.Goals as goal

pub run-requires-clause-propagation : goal.run-requires-clause-propagation
run-requires-clause-propagation g c =
    let u = c.args.update.now in
    subst (λ (x : Bool). IsPropagation (record (update_setting u) { extended = x }) (update_spread u) c.args.state.now.store.cells)
    (sym c.effect_of-effect.ensures.extended)
    (change_propagation (names_of u.dict.now.checks) (dict_of u) c.source-source.ensures.is_accepted (undo_of u) (answers_after u) c.requires.update.undone
    u.gone c.requires.update.gone u.stamp c.args.state.now c.requires.before.results)

pub run-requires-clause-start : goal.run-requires-clause-start
run-requires-clause-start g c =
    let u = c.args.update.now in
    subst (λ (x : Bool). IsRunning (record (update_setting u) { extended = x }) (update_spread u) c.args.state.now.store.cells (record c.args.state.now { queue = c.seed.new.queue }))
    (sym c.effect_of-effect.ensures.extended)
    (change_running (names_of u.dict.now.checks) (dict_of u) c.source-source.ensures.is_accepted (undo_of u) (answers_after u) c.requires.update.undone
    u.gone c.requires.update.gone u.stamp c.args.state.now c.requires.before.results c.requires.before.idle.nothing_kept c.seed.new.queue c.in_ok-seed.ensures.waiting)

pub returns-clause-visits : goal.returns-clause-visits
returns-clause-visits g c =
    let u = c.args.update.now in
    subst (λ (n : ℕ). OnOk c.run.result (c.run.new.steps ≡ c.args.steps.now + n))
    (change_visits (names_of u.dict.now.checks) (dict_of u) c.source-source.ensures.is_accepted (undo_of u) (answers_after u) c.requires.update.undone
    u.gone c.requires.update.gone u.stamp c.args.state.now c.requires.before.results)
    c.run.ensures.visits

pub returns-clause-most : goal.returns-clause-most
returns-clause-most g c =
    let u = c.args.update.now in
    subst (λ (n : ℕ). c.run.new.steps ≤ c.args.steps.now + n)
    (change_weight (names_of u.dict.now.checks) (dict_of u) c.source-source.ensures.is_accepted (undo_of u) (answers_after u) c.requires.update.undone
    u.gone c.requires.update.gone u.stamp c.args.state.now c.requires.before.results)
    c.run.ensures.most
