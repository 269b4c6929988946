use Rattle.std.proofs.Common.{ap, ◌∙◌}
use Rattle.graph_session.specs.Rules.{rules}
use Rattle.graph_session.specs.SessionView.{SessionView, session_state}
use Rattle.shared_desk.specs.DeskView.{DeskView}
use Rattle.shared_desk.proofs.KeptLaws.{show_keeps, stepped_from}
use Rattle.shared_desk.proofs.StepLaws.{asked_place, question_stays, shows_no_change}
use Rattle.shared_desk.proofs.desk.Desk.show.Goals as goal
use Rattle.shared_desk.proofs.desk.Desk.show.Goals.{in-Err-put, in-Ok-put}

pub invariant_of-self-in-Ok-command : goal.invariant_of-self-in-Ok-command
invariant_of-self-in-Ok-command g c =
    let v = c.self.inside.session in
    let none = shows_no_change c.args.command.now c.args.path.now c.requires.shown in
    asked_place v c.command.new.self c.self.inside.place (ap session_state (question_stays (rules v.dict) v c.command.new.self c.args.command.now c.in-Ok-command.reply none c.in-Ok-command.ensures.ok c.in-Ok-command.ensures.dict)) c.self.invariant

pub returns-after-put-clause-stepped : goal.returns-after-put-clause-stepped
returns-after-put-clause-stepped g c =
    let v = c.self.inside.session in
    let view : DeskView = record { session = v; changers = c.self.inside.changers.items; entries = c.self.inside.entries.items; asked = c.self.inside.last_seen } in
    let none = shows_no_change c.args.command.now c.args.path.now c.requires.shown in
    let same = question_stays (rules v.dict) v c.command.new.self c.args.command.now c.in-Ok-command.reply none c.in-Ok-command.ensures.ok c.in-Ok-command.ensures.dict in
    elim c.match-put.branch [
      | in-Err-put w ↦ rw w.result-is (stepped_from view _ _ _ _ _ c.self.view_is (record {
        ok = tt;
        kept = tt;
        dict = c.in-Ok-command.ensures.dict;
        refused = tt;
        unchanged = λ i. record { session = same i; changers = c.self.inside.changers.items; entries = c.self.inside.entries.items; asked = w.in-Err-put.ensures.unchanged i };
      }))
      | in-Ok-put w ↦ rw w.result-is (stepped_from view _ _ _ _ _ c.self.view_is (record {
        ok = c.in-Ok-command.ensures.ok;
        kept = show_keeps view c.command.new.self c.args.party c.args.command.now c.args.path.now c.in-Ok.slot c.put.new.self c.changes.result c.requires.shown c.in-Ok.ensures.found
            (c.changes.ensures ∙ ap (λ (s : SessionView). s.changes) same) w.in-Ok-put.ensures.put;
        dict = c.in-Ok-command.ensures.dict;
        refused = tt;
        unchanged = tt;
      }))
    ]
