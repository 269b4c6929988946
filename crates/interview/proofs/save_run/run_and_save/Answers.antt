use Rattle.std.proofs.Common.{◌≡◌, ◌++◌, codes, inl, inr, refl}
use Rattle.interview_ends.specs.FaultLines.{fault_name, fault_place}
use Rattle.script_runs.specs.declared.status.Status.TheVariants.{DictionaryRefused, FetchFault}
use Rattle.interview_ends.proofs.LastLineLaws.{puts_line}
use Rattle.text_checks.specs.Tables.{named_checks}
use Rattle.graph_session.specs.Rules.{rules}
use Rattle.interview_ends.specs.CallsFor.{beside}
use Rattle.fact_watch.specs.Tables.{named_relations}
use Rattle.interview_ends.specs.Given.{did_by}
use Rattle.interview_ends.specs.Save.{save_meaning}
use Rattle.script_runs.specs.ScriptEnds.{script_did}
use Rattle.interview_ends.specs.Origins.{origin_of}
use Rattle.interview_ends.proofs.CallsForLaws.{in_vain, never_by_save, never_by_text, none_as}
use Rattle.interview.proofs.SaveRunLaws.{save_ends_refused, save_ends_run, save_ends_unobtained}
use Rattle.interview.proofs.save_run.run_and_save.Goals as goal

pub returns-in-Ok-Accepted : goal.returns-in-Ok-Accepted
returns-in-Ok-Accepted g c =
    let had = rw c.in-Ok-Accepted.field-0-is at c.in-Ok-Accepted.ensures.obtained in
    record {
      ends = λ words asked. save_ends_run _ (did_by (g.H.Shelf.files c.args.shelf.now) (g.H.Shelf.files c.obtain.new.shelf) (g.S.Source.input c.args.script.now) (g.S.Source.input c.save_over.new.script) (g.K.Sink.output c.args.out.now) (g.K.Sink.output c.save_over.new.out)) _ asked had.0 had.1 _ had.2 c.save_over.result c.save_over.ensures.saves;
      calls = λ words. inl (rules c.in-Ok-Accepted.dictionary, rw c.in-Ok-Accepted.field-0-is at c.in-Ok-Accepted.ensures.by_calls, c.save_over.ensures.calls, never_by_save (rules c.in-Ok-Accepted.dictionary) (save_meaning (rules c.in-Ok-Accepted.dictionary) (named_relations c.args.relations.now)) (script_did (g.S.Source.input c.args.script.now) (g.S.Source.input c.save_over.new.script) (g.K.Sink.output c.args.out.now) (g.K.Sink.output c.save_over.new.out)) c.save_over.result c.save_over.ensures.saves);
    }

pub returns-in-Ok-Refused : goal.returns-in-Ok-Refused
returns-in-Ok-Refused g c =
    let had = rw c.in-Ok-Refused.field-0-is at c.in-Ok-Refused.ensures.obtained in
    let called = rw c.in-Ok-Refused.field-0-is at c.in-Ok-Refused.ensures.by_calls in
    record {
      ends = λ words asked. save_ends_refused _ (did_by (g.H.Shelf.files c.args.shelf.now) (g.H.Shelf.files c.obtain.new.shelf) (g.S.Source.input c.args.script.now) (g.S.Source.input c.args.script.now) (g.K.Sink.output c.args.out.now) (g.K.Sink.output c.end_by_fault.new.out)) _ asked had.0 had.1 _ had.2 (refl, refl) c.end_by_fault.result c.end_by_fault.ensures.text;
      calls = λ words.
          inr (
            inl (none_as (beside g.H.Shelf.fetched c.args.script.now c.args.out.now) ⊥ (c.end_by_fault.result ≡ FetchFault) (λ wrong. absurd wrong) (never_by_text _ _ _ _ _ (λ e. cc) c.end_by_fault.ensures.puts) c.args.shelf.now c.obtain.new.shelf (named_checks c.args.checks.now) (origin_of c.args.origin) called),
            refl,
            puts_line _ _ (codes "dictionary refused " ++ fault_name c.in-Ok-Refused.fault ++ fault_place c.in-Ok-Refused.fault) DictionaryRefused _ (λ all. all) c.end_by_fault.ensures.puts,
          );
    }

pub returns-in-Err : goal.returns-in-Err
returns-in-Err g c = record {
  ends = λ words asked. save_ends_unobtained _ (did_by (g.H.Shelf.files c.args.shelf.now) (g.H.Shelf.files c.obtain.new.shelf) (g.S.Source.input c.args.script.now) (g.S.Source.input c.args.script.now) (g.K.Sink.output c.args.out.now) (g.K.Sink.output c.args.out.now)) _ asked c.in-Err.status refl (refl, refl) c.in-Err.ensures.not_obtained;
  calls = λ words. inr (in_vain (beside g.H.Shelf.fetched c.args.script.now c.args.out.now) (named_checks c.args.checks.now) _ c.in-Err.status c.args.shelf.now c.obtain.new.shelf c.in-Err.ensures.by_calls c.in-Err.ensures.calls, refl, inl refl);
}
