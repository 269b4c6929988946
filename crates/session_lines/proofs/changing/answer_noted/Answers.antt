use Rattle.std.proofs.Common.{ap, refl}
use Rattle.graph_session.specs.Rules.{rules}
use Rattle.graph_session.specs.SessionView.{session_state}
use Rattle.graph_session.proofs.RunLaws.{step_count}
use Rattle.fact_watch.specs.Tables.{named_relations}
use Rattle.session_lines.specs.Answering.{line_state_of}
use Rattle.session_lines.specs.Replies.{reply_text}
use Rattle.session_lines.specs.Stepping.{said}
use Rattle.session_lines.proofs.AnsweringLaws.{refusal_keeps, refusal_steps, reply_keeps, reply_steps}
use Rattle.dictionary.specs.AcceptedParts.{accepted}
use Rattle.dict_meaning.specs.Plain.{plain}
use Rattle.session_lines.proofs.changing.answer_noted.Goals as goal

pub write_said-requires : goal.write_said-requires
write_said-requires g c = record { noted = λ change. (plain (accepted c.args.session.now.dict) c.args.session.now.timeline.now, c.requires.noted change) }

pub returns-in-Ok-clause-stepped : goal.returns-in-Ok-clause-stepped
returns-in-Ok-clause-stepped g c =
    let r = rules c.args.session.now.dict in
    let here = line_state_of c.args.session.now (named_relations c.args.table.now) c.args.watches.now in
    let after = session_state c.command.new.self in
    reply_steps _ _ r here after c.args.command.now c.in-Ok.reply (said r here c.args.command.now (reply_text r after c.in-Ok.reply) after) c.write_said.result
    c.in-Ok.ensures.ok refl
    (rw c.command.ensures.dict at (c.write_said.ensures.written (plain (accepted c.args.session.now.dict) c.args.session.now.timeline.now) c.requires.noted))

pub returns-in-Ok-clause-few : goal.returns-in-Ok-clause-few
returns-in-Ok-clause-few g c = step_count (rules c.args.session.now.dict) (session_state c.args.session.now) c.args.command.now c.in-Ok.reply (session_state c.command.new.self) c.in-Ok.ensures.ok

pub returns-in-Err-clause-stepped : goal.returns-in-Err-clause-stepped
returns-in-Err-clause-stepped g c =
    refusal_steps _ _ (rules c.args.session.now.dict) (line_state_of c.args.session.now (named_relations c.args.table.now) c.args.watches.now) (session_state c.command.new.self) c.args.command.now c.in-Err.refusal c.write_refusal.result
    c.in-Err.ensures.refused (ap session_state c.in-Err.ensures.unchanged) c.write_refusal.ensures.written

pub returns-in-Ok-clause-kept : goal.returns-in-Ok-clause-kept
returns-in-Ok-clause-kept g c =
    let r = rules c.args.session.now.dict in
    let here = line_state_of c.args.session.now (named_relations c.args.table.now) c.args.watches.now in
    let after = session_state c.command.new.self in
    reply_keeps _ _ r here after c.args.command.now c.in-Ok.reply (said r here c.args.command.now (reply_text r after c.in-Ok.reply) after) c.write_said.result c.in-Ok.ensures.ok
    (rw c.command.ensures.dict at (c.write_said.ensures.written (plain (accepted c.args.session.now.dict) c.args.session.now.timeline.now) c.requires.noted))

pub returns-in-Err-clause-kept : goal.returns-in-Err-clause-kept
returns-in-Err-clause-kept g c =
    refusal_keeps _ _ (rules c.args.session.now.dict) (line_state_of c.args.session.now (named_relations c.args.table.now) c.args.watches.now) (session_state c.command.new.self) c.args.command.now c.in-Err.refusal c.write_refusal.result
    c.in-Err.ensures.refused (ap session_state c.in-Err.ensures.unchanged) c.write_refusal.ensures.written
