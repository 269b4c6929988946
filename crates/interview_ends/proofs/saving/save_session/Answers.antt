use Rattle.std.proofs.Common.{ap, refl}
use Rattle.fact_watch.specs.Tables.{named_relations}
use Rattle.graph_session.specs.Rules.{rules}
use Rattle.session_lines.specs.Answering.{line_state_of}
use Rattle.session_lines.specs.Stepping.{open_at}
use Rattle.script_runs.specs.Meanings.{of_session, silently}
use Rattle.script_runs.specs.declared.status.Status.TheVariants.{Done, DictionaryRefused, Usage, FetchFault, ReadFault, WriteFault, ScriptTooLong, NoMemory, SavedRefused}
use Rattle.interview_ends.proofs.CallsForLaws.{saved_behind}
use Rattle.interview_ends.proofs.LastLineLaws.{ended_by}
use Rattle.script_runs.proofs.MeaningLaws.{session_begins, silently_begins}
use Rattle.interview_ends.proofs.SaveLaws.{saves_done, saves_nothing}
use Rattle.interview_ends.proofs.saving.save_session.Goals as goal

pub run-requires-clause-meant : goal.run-requires-clause-meant
run-requires-clause-meant g c = (silently (of_session (rules c.args.silenced.now.handler.session.dict) (open_at (line_state_of c.args.silenced.now.handler.session (named_relations c.args.tables.now.relations.now) c.args.silenced.now.handler.watches))), (silently_begins _ (session_begins (rules c.args.silenced.now.handler.session.dict) (line_state_of c.args.silenced.now.handler.session (named_relations c.args.tables.now.relations.now) c.args.silenced.now.handler.watches))), ((of_session (rules c.args.silenced.now.handler.session.dict) (open_at (line_state_of c.args.silenced.now.handler.session (named_relations c.args.tables.now.relations.now) c.args.silenced.now.handler.watches))), refl, refl))

pub returns-in-Done : goal.returns-in-Done
returns-in-Done g c = record {
  saves = saves_done (rules c.args.silenced.now.handler.session.dict) (of_session (rules c.args.silenced.now.handler.session.dict) (open_at (line_state_of c.args.silenced.now.handler.session (named_relations c.args.tables.now.relations.now) c.args.silenced.now.handler.watches))) (g.S.Source.input c.args.script.now) (g.S.Source.input c.run.new.script) (g.K.Sink.output c.args.out.now) (g.K.Sink.output c.run.new.out) (ap g.K.Sink.output (c.run.ensures.quiet refl)) (g.K.Sink.output c.save_answers.new.out) (rules c.run.new.handler.handler.session.dict) c.run.new.handler.handler.session.timeline.now c.run.ensures.same_rules
      (rw c.in-Done.is at c.run.ensures.ends (silently (of_session (rules c.args.silenced.now.handler.session.dict) (open_at (line_state_of c.args.silenced.now.handler.session (named_relations c.args.tables.now.relations.now) c.args.silenced.now.handler.watches)))) (silently_begins _ (session_begins (rules c.args.silenced.now.handler.session.dict) (line_state_of c.args.silenced.now.handler.session (named_relations c.args.tables.now.relations.now) c.args.silenced.now.handler.watches))) ((of_session (rules c.args.silenced.now.handler.session.dict) (open_at (line_state_of c.args.silenced.now.handler.session (named_relations c.args.tables.now.relations.now) c.args.silenced.now.handler.watches))), refl, refl))
      (rw c.in-Done.is at c.run.ensures.leaves (silently (of_session (rules c.args.silenced.now.handler.session.dict) (open_at (line_state_of c.args.silenced.now.handler.session (named_relations c.args.tables.now.relations.now) c.args.silenced.now.handler.watches)))) (silently_begins _ (session_begins (rules c.args.silenced.now.handler.session.dict) (line_state_of c.args.silenced.now.handler.session (named_relations c.args.tables.now.relations.now) c.args.silenced.now.handler.watches))) ((of_session (rules c.args.silenced.now.handler.session.dict) (open_at (line_state_of c.args.silenced.now.handler.session (named_relations c.args.tables.now.relations.now) c.args.silenced.now.handler.watches))), refl, refl))
      c.save_answers.result (ended_by _ _ _ Done c.save_answers.result c.save_answers.ensures);
  calls =
      let whole = (rw c.in-Done.is at c.run.ensures.calls (silently (of_session (rules c.args.silenced.now.handler.session.dict) (open_at (line_state_of c.args.silenced.now.handler.session (named_relations c.args.tables.now.relations.now) c.args.silenced.now.handler.watches)))) (silently_begins _ (session_begins (rules c.args.silenced.now.handler.session.dict) (line_state_of c.args.silenced.now.handler.session (named_relations c.args.tables.now.relations.now) c.args.silenced.now.handler.watches))) ((of_session (rules c.args.silenced.now.handler.session.dict) (open_at (line_state_of c.args.silenced.now.handler.session (named_relations c.args.tables.now.relations.now) c.args.silenced.now.handler.watches))), refl, refl)) in
      saved_behind g.S.Source.pulled g.K.Sink.output c.args.out.now c.save_answers.new.out c.args.script.now c.run.new.script (rules c.args.silenced.now.handler.session.dict) (rules c.run.new.handler.handler.session.dict) (of_session (rules c.args.silenced.now.handler.session.dict) (open_at (line_state_of c.args.silenced.now.handler.session (named_relations c.args.tables.now.relations.now) c.args.silenced.now.handler.watches))) c.run.new.handler.handler.session.timeline.now c.run.new.out (c.run.ensures.quiet refl) c.run.ensures.same_rules whole.0.exchange whole.1 c.save_answers.result c.save_answers.ensures;
}

pub returns-in-DictionaryRefused : goal.returns-in-DictionaryRefused
returns-in-DictionaryRefused g c = record {
  saves = saves_nothing (rules c.args.silenced.now.handler.session.dict) (of_session (rules c.args.silenced.now.handler.session.dict) (open_at (line_state_of c.args.silenced.now.handler.session (named_relations c.args.tables.now.relations.now) c.args.silenced.now.handler.watches))) (g.S.Source.input c.args.script.now) (g.S.Source.input c.run.new.script) (g.K.Sink.output c.args.out.now) (g.K.Sink.output c.run.new.out) (ap g.K.Sink.output (c.run.ensures.quiet refl)) DictionaryRefused (λ e. cc) (rw c.in-DictionaryRefused.is at c.run.ensures.unfailing refl) (rw c.in-DictionaryRefused.is at c.run.ensures.ends (silently (of_session (rules c.args.silenced.now.handler.session.dict) (open_at (line_state_of c.args.silenced.now.handler.session (named_relations c.args.tables.now.relations.now) c.args.silenced.now.handler.watches)))) (silently_begins _ (session_begins (rules c.args.silenced.now.handler.session.dict) (line_state_of c.args.silenced.now.handler.session (named_relations c.args.tables.now.relations.now) c.args.silenced.now.handler.watches))) ((of_session (rules c.args.silenced.now.handler.session.dict) (open_at (line_state_of c.args.silenced.now.handler.session (named_relations c.args.tables.now.relations.now) c.args.silenced.now.handler.watches))), refl, refl));
  calls = record { exchange = (rw c.in-DictionaryRefused.is at c.run.ensures.calls (silently (of_session (rules c.args.silenced.now.handler.session.dict) (open_at (line_state_of c.args.silenced.now.handler.session (named_relations c.args.tables.now.relations.now) c.args.silenced.now.handler.watches)))) (silently_begins _ (session_begins (rules c.args.silenced.now.handler.session.dict) (line_state_of c.args.silenced.now.handler.session (named_relations c.args.tables.now.relations.now) c.args.silenced.now.handler.watches))) ((of_session (rules c.args.silenced.now.handler.session.dict) (open_at (line_state_of c.args.silenced.now.handler.session (named_relations c.args.tables.now.relations.now) c.args.silenced.now.handler.watches))), refl, refl)).0.exchange; puts = c.run.ensures.quiet refl };
}

pub returns-in-Usage : goal.returns-in-Usage
returns-in-Usage g c = record {
  saves = saves_nothing (rules c.args.silenced.now.handler.session.dict) (of_session (rules c.args.silenced.now.handler.session.dict) (open_at (line_state_of c.args.silenced.now.handler.session (named_relations c.args.tables.now.relations.now) c.args.silenced.now.handler.watches))) (g.S.Source.input c.args.script.now) (g.S.Source.input c.run.new.script) (g.K.Sink.output c.args.out.now) (g.K.Sink.output c.run.new.out) (ap g.K.Sink.output (c.run.ensures.quiet refl)) Usage (λ e. cc) (rw c.in-Usage.is at c.run.ensures.unfailing refl) (rw c.in-Usage.is at c.run.ensures.ends (silently (of_session (rules c.args.silenced.now.handler.session.dict) (open_at (line_state_of c.args.silenced.now.handler.session (named_relations c.args.tables.now.relations.now) c.args.silenced.now.handler.watches)))) (silently_begins _ (session_begins (rules c.args.silenced.now.handler.session.dict) (line_state_of c.args.silenced.now.handler.session (named_relations c.args.tables.now.relations.now) c.args.silenced.now.handler.watches))) ((of_session (rules c.args.silenced.now.handler.session.dict) (open_at (line_state_of c.args.silenced.now.handler.session (named_relations c.args.tables.now.relations.now) c.args.silenced.now.handler.watches))), refl, refl));
  calls = record { exchange = (rw c.in-Usage.is at c.run.ensures.calls (silently (of_session (rules c.args.silenced.now.handler.session.dict) (open_at (line_state_of c.args.silenced.now.handler.session (named_relations c.args.tables.now.relations.now) c.args.silenced.now.handler.watches)))) (silently_begins _ (session_begins (rules c.args.silenced.now.handler.session.dict) (line_state_of c.args.silenced.now.handler.session (named_relations c.args.tables.now.relations.now) c.args.silenced.now.handler.watches))) ((of_session (rules c.args.silenced.now.handler.session.dict) (open_at (line_state_of c.args.silenced.now.handler.session (named_relations c.args.tables.now.relations.now) c.args.silenced.now.handler.watches))), refl, refl)).0.exchange; puts = c.run.ensures.quiet refl };
}

pub returns-in-FetchFault : goal.returns-in-FetchFault
returns-in-FetchFault g c = record {
  saves = saves_nothing (rules c.args.silenced.now.handler.session.dict) (of_session (rules c.args.silenced.now.handler.session.dict) (open_at (line_state_of c.args.silenced.now.handler.session (named_relations c.args.tables.now.relations.now) c.args.silenced.now.handler.watches))) (g.S.Source.input c.args.script.now) (g.S.Source.input c.run.new.script) (g.K.Sink.output c.args.out.now) (g.K.Sink.output c.run.new.out) (ap g.K.Sink.output (c.run.ensures.quiet refl)) FetchFault (λ e. cc) (rw c.in-FetchFault.is at c.run.ensures.unfailing refl) (rw c.in-FetchFault.is at c.run.ensures.ends (silently (of_session (rules c.args.silenced.now.handler.session.dict) (open_at (line_state_of c.args.silenced.now.handler.session (named_relations c.args.tables.now.relations.now) c.args.silenced.now.handler.watches)))) (silently_begins _ (session_begins (rules c.args.silenced.now.handler.session.dict) (line_state_of c.args.silenced.now.handler.session (named_relations c.args.tables.now.relations.now) c.args.silenced.now.handler.watches))) ((of_session (rules c.args.silenced.now.handler.session.dict) (open_at (line_state_of c.args.silenced.now.handler.session (named_relations c.args.tables.now.relations.now) c.args.silenced.now.handler.watches))), refl, refl));
  calls = record { exchange = (rw c.in-FetchFault.is at c.run.ensures.calls (silently (of_session (rules c.args.silenced.now.handler.session.dict) (open_at (line_state_of c.args.silenced.now.handler.session (named_relations c.args.tables.now.relations.now) c.args.silenced.now.handler.watches)))) (silently_begins _ (session_begins (rules c.args.silenced.now.handler.session.dict) (line_state_of c.args.silenced.now.handler.session (named_relations c.args.tables.now.relations.now) c.args.silenced.now.handler.watches))) ((of_session (rules c.args.silenced.now.handler.session.dict) (open_at (line_state_of c.args.silenced.now.handler.session (named_relations c.args.tables.now.relations.now) c.args.silenced.now.handler.watches))), refl, refl)).0.exchange; puts = c.run.ensures.quiet refl };
}

pub returns-in-ReadFault : goal.returns-in-ReadFault
returns-in-ReadFault g c = record {
  saves = saves_nothing (rules c.args.silenced.now.handler.session.dict) (of_session (rules c.args.silenced.now.handler.session.dict) (open_at (line_state_of c.args.silenced.now.handler.session (named_relations c.args.tables.now.relations.now) c.args.silenced.now.handler.watches))) (g.S.Source.input c.args.script.now) (g.S.Source.input c.run.new.script) (g.K.Sink.output c.args.out.now) (g.K.Sink.output c.run.new.out) (ap g.K.Sink.output (c.run.ensures.quiet refl)) ReadFault (λ e. cc) (rw c.in-ReadFault.is at c.run.ensures.unfailing refl) (rw c.in-ReadFault.is at c.run.ensures.ends (silently (of_session (rules c.args.silenced.now.handler.session.dict) (open_at (line_state_of c.args.silenced.now.handler.session (named_relations c.args.tables.now.relations.now) c.args.silenced.now.handler.watches)))) (silently_begins _ (session_begins (rules c.args.silenced.now.handler.session.dict) (line_state_of c.args.silenced.now.handler.session (named_relations c.args.tables.now.relations.now) c.args.silenced.now.handler.watches))) ((of_session (rules c.args.silenced.now.handler.session.dict) (open_at (line_state_of c.args.silenced.now.handler.session (named_relations c.args.tables.now.relations.now) c.args.silenced.now.handler.watches))), refl, refl));
  calls = record { exchange = (rw c.in-ReadFault.is at c.run.ensures.calls (silently (of_session (rules c.args.silenced.now.handler.session.dict) (open_at (line_state_of c.args.silenced.now.handler.session (named_relations c.args.tables.now.relations.now) c.args.silenced.now.handler.watches)))) (silently_begins _ (session_begins (rules c.args.silenced.now.handler.session.dict) (line_state_of c.args.silenced.now.handler.session (named_relations c.args.tables.now.relations.now) c.args.silenced.now.handler.watches))) ((of_session (rules c.args.silenced.now.handler.session.dict) (open_at (line_state_of c.args.silenced.now.handler.session (named_relations c.args.tables.now.relations.now) c.args.silenced.now.handler.watches))), refl, refl)).0.exchange; puts = c.run.ensures.quiet refl };
}

pub returns-in-WriteFault : goal.returns-in-WriteFault
returns-in-WriteFault g c = record {
  saves = saves_nothing (rules c.args.silenced.now.handler.session.dict) (of_session (rules c.args.silenced.now.handler.session.dict) (open_at (line_state_of c.args.silenced.now.handler.session (named_relations c.args.tables.now.relations.now) c.args.silenced.now.handler.watches))) (g.S.Source.input c.args.script.now) (g.S.Source.input c.run.new.script) (g.K.Sink.output c.args.out.now) (g.K.Sink.output c.run.new.out) (ap g.K.Sink.output (c.run.ensures.quiet refl)) WriteFault (λ e. cc) (rw c.in-WriteFault.is at c.run.ensures.unfailing refl) (rw c.in-WriteFault.is at c.run.ensures.ends (silently (of_session (rules c.args.silenced.now.handler.session.dict) (open_at (line_state_of c.args.silenced.now.handler.session (named_relations c.args.tables.now.relations.now) c.args.silenced.now.handler.watches)))) (silently_begins _ (session_begins (rules c.args.silenced.now.handler.session.dict) (line_state_of c.args.silenced.now.handler.session (named_relations c.args.tables.now.relations.now) c.args.silenced.now.handler.watches))) ((of_session (rules c.args.silenced.now.handler.session.dict) (open_at (line_state_of c.args.silenced.now.handler.session (named_relations c.args.tables.now.relations.now) c.args.silenced.now.handler.watches))), refl, refl));
  calls = record { exchange = (rw c.in-WriteFault.is at c.run.ensures.calls (silently (of_session (rules c.args.silenced.now.handler.session.dict) (open_at (line_state_of c.args.silenced.now.handler.session (named_relations c.args.tables.now.relations.now) c.args.silenced.now.handler.watches)))) (silently_begins _ (session_begins (rules c.args.silenced.now.handler.session.dict) (line_state_of c.args.silenced.now.handler.session (named_relations c.args.tables.now.relations.now) c.args.silenced.now.handler.watches))) ((of_session (rules c.args.silenced.now.handler.session.dict) (open_at (line_state_of c.args.silenced.now.handler.session (named_relations c.args.tables.now.relations.now) c.args.silenced.now.handler.watches))), refl, refl)).0.exchange; puts = absurd (rw c.in-WriteFault.is at c.run.ensures.unfailing refl refl) };
}

pub returns-in-ScriptTooLong : goal.returns-in-ScriptTooLong
returns-in-ScriptTooLong g c = record {
  saves = saves_nothing (rules c.args.silenced.now.handler.session.dict) (of_session (rules c.args.silenced.now.handler.session.dict) (open_at (line_state_of c.args.silenced.now.handler.session (named_relations c.args.tables.now.relations.now) c.args.silenced.now.handler.watches))) (g.S.Source.input c.args.script.now) (g.S.Source.input c.run.new.script) (g.K.Sink.output c.args.out.now) (g.K.Sink.output c.run.new.out) (ap g.K.Sink.output (c.run.ensures.quiet refl)) ScriptTooLong (λ e. cc) (rw c.in-ScriptTooLong.is at c.run.ensures.unfailing refl) (rw c.in-ScriptTooLong.is at c.run.ensures.ends (silently (of_session (rules c.args.silenced.now.handler.session.dict) (open_at (line_state_of c.args.silenced.now.handler.session (named_relations c.args.tables.now.relations.now) c.args.silenced.now.handler.watches)))) (silently_begins _ (session_begins (rules c.args.silenced.now.handler.session.dict) (line_state_of c.args.silenced.now.handler.session (named_relations c.args.tables.now.relations.now) c.args.silenced.now.handler.watches))) ((of_session (rules c.args.silenced.now.handler.session.dict) (open_at (line_state_of c.args.silenced.now.handler.session (named_relations c.args.tables.now.relations.now) c.args.silenced.now.handler.watches))), refl, refl));
  calls = record { exchange = (rw c.in-ScriptTooLong.is at c.run.ensures.calls (silently (of_session (rules c.args.silenced.now.handler.session.dict) (open_at (line_state_of c.args.silenced.now.handler.session (named_relations c.args.tables.now.relations.now) c.args.silenced.now.handler.watches)))) (silently_begins _ (session_begins (rules c.args.silenced.now.handler.session.dict) (line_state_of c.args.silenced.now.handler.session (named_relations c.args.tables.now.relations.now) c.args.silenced.now.handler.watches))) ((of_session (rules c.args.silenced.now.handler.session.dict) (open_at (line_state_of c.args.silenced.now.handler.session (named_relations c.args.tables.now.relations.now) c.args.silenced.now.handler.watches))), refl, refl)).0.exchange; puts = c.run.ensures.quiet refl };
}

pub returns-in-NoMemory : goal.returns-in-NoMemory
returns-in-NoMemory g c = record {
  saves = saves_nothing (rules c.args.silenced.now.handler.session.dict) (of_session (rules c.args.silenced.now.handler.session.dict) (open_at (line_state_of c.args.silenced.now.handler.session (named_relations c.args.tables.now.relations.now) c.args.silenced.now.handler.watches))) (g.S.Source.input c.args.script.now) (g.S.Source.input c.run.new.script) (g.K.Sink.output c.args.out.now) (g.K.Sink.output c.run.new.out) (ap g.K.Sink.output (c.run.ensures.quiet refl)) NoMemory (λ e. cc) (rw c.in-NoMemory.is at c.run.ensures.unfailing refl) (rw c.in-NoMemory.is at c.run.ensures.ends (silently (of_session (rules c.args.silenced.now.handler.session.dict) (open_at (line_state_of c.args.silenced.now.handler.session (named_relations c.args.tables.now.relations.now) c.args.silenced.now.handler.watches)))) (silently_begins _ (session_begins (rules c.args.silenced.now.handler.session.dict) (line_state_of c.args.silenced.now.handler.session (named_relations c.args.tables.now.relations.now) c.args.silenced.now.handler.watches))) ((of_session (rules c.args.silenced.now.handler.session.dict) (open_at (line_state_of c.args.silenced.now.handler.session (named_relations c.args.tables.now.relations.now) c.args.silenced.now.handler.watches))), refl, refl));
  calls = record { exchange = (rw c.in-NoMemory.is at c.run.ensures.calls (silently (of_session (rules c.args.silenced.now.handler.session.dict) (open_at (line_state_of c.args.silenced.now.handler.session (named_relations c.args.tables.now.relations.now) c.args.silenced.now.handler.watches)))) (silently_begins _ (session_begins (rules c.args.silenced.now.handler.session.dict) (line_state_of c.args.silenced.now.handler.session (named_relations c.args.tables.now.relations.now) c.args.silenced.now.handler.watches))) ((of_session (rules c.args.silenced.now.handler.session.dict) (open_at (line_state_of c.args.silenced.now.handler.session (named_relations c.args.tables.now.relations.now) c.args.silenced.now.handler.watches))), refl, refl)).0.exchange; puts = c.run.ensures.quiet refl };
}

pub returns-in-SavedRefused : goal.returns-in-SavedRefused
returns-in-SavedRefused g c = record {
  saves = saves_nothing (rules c.args.silenced.now.handler.session.dict) (of_session (rules c.args.silenced.now.handler.session.dict) (open_at (line_state_of c.args.silenced.now.handler.session (named_relations c.args.tables.now.relations.now) c.args.silenced.now.handler.watches))) (g.S.Source.input c.args.script.now) (g.S.Source.input c.run.new.script) (g.K.Sink.output c.args.out.now) (g.K.Sink.output c.run.new.out) (ap g.K.Sink.output (c.run.ensures.quiet refl)) SavedRefused (λ e. cc) (rw c.in-SavedRefused.is at c.run.ensures.unfailing refl) (rw c.in-SavedRefused.is at c.run.ensures.ends (silently (of_session (rules c.args.silenced.now.handler.session.dict) (open_at (line_state_of c.args.silenced.now.handler.session (named_relations c.args.tables.now.relations.now) c.args.silenced.now.handler.watches)))) (silently_begins _ (session_begins (rules c.args.silenced.now.handler.session.dict) (line_state_of c.args.silenced.now.handler.session (named_relations c.args.tables.now.relations.now) c.args.silenced.now.handler.watches))) ((of_session (rules c.args.silenced.now.handler.session.dict) (open_at (line_state_of c.args.silenced.now.handler.session (named_relations c.args.tables.now.relations.now) c.args.silenced.now.handler.watches))), refl, refl));
  calls = record { exchange = (rw c.in-SavedRefused.is at c.run.ensures.calls (silently (of_session (rules c.args.silenced.now.handler.session.dict) (open_at (line_state_of c.args.silenced.now.handler.session (named_relations c.args.tables.now.relations.now) c.args.silenced.now.handler.watches)))) (silently_begins _ (session_begins (rules c.args.silenced.now.handler.session.dict) (line_state_of c.args.silenced.now.handler.session (named_relations c.args.tables.now.relations.now) c.args.silenced.now.handler.watches))) ((of_session (rules c.args.silenced.now.handler.session.dict) (open_at (line_state_of c.args.silenced.now.handler.session (named_relations c.args.tables.now.relations.now) c.args.silenced.now.handler.watches))), refl, refl)).0.exchange; puts = c.run.ensures.quiet refl };
}
