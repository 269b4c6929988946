use Rattle.std.proofs.Common.{[], ◌∷◌, refl, sym, ap, subst}
use Rattle.graph_session.specs.Run.{is_memory}
use Rattle.fact_watch.specs.Tables.{named_relations}
use Rattle.session_lines.specs.Answering.{KeptAs, SteppedAs, line_state_of}
use Rattle.session_lines.specs.Replies.{refusal_text}
use Rattle.session_lines.specs.Stepping.{put_watch}
use Rattle.session_lines.proofs.AnsweringLaws.{ends_or_steps, keeps_refused}
use Rattle.session_lines.proofs.watching.answer_watch.Goals as goal

pub returns-in-Ok-clause-stepped : goal.returns-in-Ok-clause-stepped
returns-in-Ok-clause-stepped g c =
    let here = line_state_of c.args.session.now (named_relations c.args.table.now) c.args.watches.now in
    subst (λ o. SteppedAs (g.K.Sink.output c.args.out.now) (g.K.Sink.output c.watch_slot.new.out) (put_watch here c.args.name.now o) (line_state_of c.args.session.now (named_relations c.args.table.now) c.watch_slot.new.watches) c.watch_slot.result)
    c.in-Ok.ensures.found c.watch_slot.ensures.stepped

pub returns-in-Err-clause-stepped : goal.returns-in-Err-clause-stepped
returns-in-Err-clause-stepped g c =
    let here = line_state_of c.args.session.now (named_relations c.args.table.now) c.args.watches.now in
    ends_or_steps _ _ _ here (refusal_text c.in-Err.refusal) (is_memory c.in-Err.refusal) c.write_refusal.result
    (λ _. ap (put_watch here c.args.name.now) (sym c.in-Err.ensures.found)) c.write_refusal.ensures.written

pub returns-in-Ok-clause-kept : goal.returns-in-Ok-clause-kept
returns-in-Ok-clause-kept g c =
    let here = line_state_of c.args.session.now (named_relations c.args.table.now) c.args.watches.now in
    subst (λ o. KeptAs (put_watch here c.args.name.now o).state here (line_state_of c.args.session.now (named_relations c.args.table.now) c.watch_slot.new.watches) c.watch_slot.result)
    c.in-Ok.ensures.found c.watch_slot.ensures.kept

pub returns-in-Err-clause-kept : goal.returns-in-Err-clause-kept
returns-in-Err-clause-kept g c =
    let here = line_state_of c.args.session.now (named_relations c.args.table.now) c.args.watches.now in
    keeps_refused _ _ here here _ (refusal_text c.in-Err.refusal ∷ []) (is_memory c.in-Err.refusal) c.write_refusal.result refl
    (λ _. ap (λ o. (put_watch here c.args.name.now o).state) (sym c.in-Err.ensures.found)) c.write_refusal.ensures.written
