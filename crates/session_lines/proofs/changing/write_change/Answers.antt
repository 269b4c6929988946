use Rattle.std.proofs.Common.{[], ◌∷◌}
use Rattle.graph_session.specs.Rules.{rules}
use Rattle.graph_session.specs.SessionView.{session_state}
use Rattle.dictionary.specs.AcceptedParts.{accepted}
use Rattle.dict_meaning.specs.Plain.{plain}
use Rattle.fact_watch.specs.Tables.{named_relations}
use Rattle.session_lines.specs.Firing.{firing_lines}
use Rattle.session_lines.specs.Replies.{reply_text}
use Rattle.session_lines.proofs.ProgressLaws.{unwritten_before, written_behind}
use Rattle.session_lines.proofs.changing.write_change.Goals as goal

pub returns-in-More-clause-written : goal.returns-in-More-clause-written
returns-in-More-clause-written g c = λ before noted.
    written_behind _ _ _ (reply_text (rules c.args.session.now.dict) (session_state c.args.session.now) c.args.reply ∷ [])
    (firing_lines (accepted c.args.session.now.dict).tree (named_relations c.args.table.now) before (plain (accepted c.args.session.now.dict) c.args.session.now.timeline.now) c.args.watches.now.watched) c.write_fired.result
    c.in-More.ensures.written (c.write_fired.ensures.written before noted)

pub returns-in-Unwritten-clause-written : goal.returns-in-Unwritten-clause-written
returns-in-Unwritten-clause-written g c = λ before noted.
    unwritten_before _ _ (reply_text (rules c.args.session.now.dict) (session_state c.args.session.now) c.args.reply ∷ [])
    (firing_lines (accepted c.args.session.now.dict).tree (named_relations c.args.table.now) before (plain (accepted c.args.session.now.dict) c.args.session.now.timeline.now) c.args.watches.now.watched)
    c.in-Unwritten.ensures.written
