use Rattle.std.proofs.Common.{◌≡◌, List, sym, ap, subst, ◌∙◌}
use Rattle.dictionary.specs.AcceptedParts.{accepted}
use Rattle.dict_meaning.specs.Plain.{plain}
use Rattle.fact_watch.specs.Tables.{named_relations}
use Rattle.fact_watch.specs.Watching.{Watch, Watching, noted}
use Rattle.graph_session.specs.Rules.{rules}
use Rattle.graph_session.specs.SessionView.{session_state}
use Rattle.session_lines.specs.Answering.{KeptAs, SteppedAs}
use Rattle.session_lines.specs.Stepping.{step_session_command}
use Rattle.session_lines.proofs.changing.answer_change.Goals as goal

pub answer_noted-requires-clause-noted : goal.answer_noted-requires-clause-noted
answer_noted-requires-clause-noted g c = λ change.
    let results = plain (accepted c.args.session.now.dict) c.args.session.now.timeline.now in
    c.in-Ok.ensures.noted ∙ ap (λ (ps : List Watch). noted ps results) (sym (ap (λ (w : Watching). w.watched) c.in-Ok.ensures.noted))

pub returns-in-Ok-clause-stepped : goal.returns-in-Ok-clause-stepped
returns-in-Ok-clause-stepped g c =
    let watched : c.note.new.self.watched ≡ c.args.watches.now.watched = ap (λ (w : Watching). w.watched) c.in-Ok.ensures.noted in
    subst (λ (ps : List Watch). SteppedAs (g.K.Sink.output c.args.out.now) (g.K.Sink.output c.answer_noted.new.out)
    (step_session_command (rules c.args.session.now.dict) (record { session_state = session_state c.args.session.now; relations = (named_relations c.args.table.now); watched = ps }) c.args.command.now)
    (record { session_state = session_state c.answer_noted.new.session; relations = (named_relations c.args.table.now); watched = c.note.new.self.watched }) c.answer_noted.result)
    watched c.answer_noted.ensures.stepped

pub returns-in-Ok-clause-kept : goal.returns-in-Ok-clause-kept
returns-in-Ok-clause-kept g c =
    let watched : c.note.new.self.watched ≡ c.args.watches.now.watched = ap (λ (w : Watching). w.watched) c.in-Ok.ensures.noted in
    subst (λ (ps : List Watch).
    KeptAs (step_session_command (rules c.args.session.now.dict) (record { session_state = session_state c.args.session.now; relations = (named_relations c.args.table.now); watched = ps }) c.args.command.now).state
    (record { session_state = session_state c.args.session.now; relations = (named_relations c.args.table.now); watched = ps })
    (record { session_state = session_state c.answer_noted.new.session; relations = (named_relations c.args.table.now); watched = c.note.new.self.watched }) c.answer_noted.result)
    watched c.answer_noted.ensures.kept
