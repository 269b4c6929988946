use Rattle.std.proofs.Common.{sym, subst}
use Rattle.fact_watch.specs.Tables.{named_relations}
use Rattle.graph_session.specs.Rules.{rules}
use Rattle.session_lines.specs.Answering.{KeptAs, SteppedAs, line_state_of}
use Rattle.session_lines.proofs.AnsweringLaws.{known_step}
use Rattle.session_lines.proofs.command.answer_command.Goals as goal

pub returns-then-is_session_command-clause-stepped : goal.returns-then-is_session_command-clause-stepped
returns-then-is_session_command-clause-stepped g c =
    subst (λ k. SteppedAs (g.K.Sink.output c.args.out.now) (g.K.Sink.output c.answer_session_command.new.out) k (line_state_of c.answer_session_command.new.session (named_relations c.args.tables.now.relations.now) c.answer_session_command.new.watches) c.answer_session_command.result)
    (sym (known_step (rules c.args.session.now.dict) (line_state_of c.args.session.now (named_relations c.args.tables.now.relations.now) c.args.watches.now) c.args.command.now (sym c.if-is_session_command.ensures))) c.answer_session_command.ensures.stepped

pub returns-then-is_session_command-clause-kept : goal.returns-then-is_session_command-clause-kept
returns-then-is_session_command-clause-kept g c =
    let here = line_state_of c.args.session.now (named_relations c.args.tables.now.relations.now) c.args.watches.now in
    subst (λ k. KeptAs k.state here (line_state_of c.answer_session_command.new.session (named_relations c.args.tables.now.relations.now) c.answer_session_command.new.watches) c.answer_session_command.result)
    (sym (known_step (rules c.args.session.now.dict) here c.args.command.now (sym c.if-is_session_command.ensures))) c.answer_session_command.ensures.kept
