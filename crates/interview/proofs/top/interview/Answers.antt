use Rattle.std.proofs.Common.{◌≡◌, ◌++◌, codes, inl, inr, refl}
use Rattle.interview_ends.specs.FaultLines.{fault_name, fault_place}
use Rattle.script_runs.specs.declared.status.Status.TheVariants.{DictionaryRefused, FetchFault, Usage}
use Rattle.interview_ends.proofs.LastLineLaws.{puts_line}
use Rattle.text_checks.specs.Tables.{named_checks}
use Rattle.interview.specs.Words.{IsRun, texts, given_by}
use Rattle.interview_ends.specs.Origins.{beginning_of, origin_of}
use Rattle.fact_watch.specs.Tables.{named_relations}
use Rattle.graph_session.specs.Rules.{rules}
use Rattle.interview_ends.specs.CallsFor.{beside}
use Rattle.interview_ends.specs.Given.{did_by}
use Rattle.interview.proofs.CallLaws.{calls_of_check, calls_of_gen, calls_of_none, calls_of_run, calls_of_save}
use Rattle.interview_ends.proofs.CallsForLaws.{in_vain, never_by_text, none_as, exchange_same}
use Rattle.interview.proofs.CheckEndLaws.{ends_check}
use Rattle.interview.proofs.GenLaws.{interviewed_by_word}
use Rattle.interview.proofs.TopLaws.{accepted_run, ends_refused, ends_run, ends_unknown, ends_unobtained, faulty_run}
use Rattle.interview.proofs.top.interview.Goals as goal

pub returns-in-Ok-Accepted : goal.returns-in-Ok-Accepted
returns-in-Ok-Accepted g c =
    let had = rw c.in-Ok-Accepted.field-0-is at c.in-Ok-Accepted.ensures.obtained in
    let called = rw c.in-Ok-Accepted.field-0-is at c.in-Ok-Accepted.ensures.by_calls in
    let asked : IsRun (texts c.args.words.now) (origin_of c.in-Run.origin) = record { beginning = beginning_of c.in-Run.beginning; mode = c.in-Run.mode; over = c.in-Run.ensures } in
    record {
      ends = interviewed_by_word _ _ refl _ (inl (ends_run _ (did_by (g.H.Shelf.files c.args.shelf.now) (g.H.Shelf.files c.run_from.new.shelf) (g.S.Source.input c.args.script.now) (g.S.Source.input c.run_from.new.script) (g.K.Sink.output c.args.out.now) (g.K.Sink.output c.run_from.new.out)) (accepted_run _ _ had.0 _ asked had.1 had.2) (g.H.Shelf.files c.obtain.new.shelf) c.run_from.result c.in-Ok-Accepted.ensures.uncounted c.obtain.ensures.kept c.run_from.ensures.ends));
      calls = calls_of_run g.H.Shelf.fetched g.S.Source.pulled g.K.Sink.output (given_by c.args.words.now (named_checks c.args.checks.now) (named_relations c.args.relations.now) (g.H.Shelf.files c.args.shelf.now) (g.S.Source.input c.args.script.now)) c.run_from.result c.args.shelf.now c.run_from.new.shelf c.args.script.now c.run_from.new.script c.args.out.now c.run_from.new.out _ asked
          (inl (rules c.in-Ok-Accepted.dictionary, c.obtain.new.shelf, called, c.run_from.ensures.fetches, exchange_same g.S.Source.pulled g.K.Sink.output c.args.out.now c.run_from.new.out c.args.script.now c.run_from.new.script _ _ _ _ _ c.run_from.result _ c.obtain.ensures.kept c.run_from.ensures.pulls));
    }

pub returns-in-Ok-Refused : goal.returns-in-Ok-Refused
returns-in-Ok-Refused g c =
    let had = rw c.in-Ok-Refused.field-0-is at c.in-Ok-Refused.ensures.obtained in
    let called = rw c.in-Ok-Refused.field-0-is at c.in-Ok-Refused.ensures.by_calls in
    let asked : IsRun (texts c.args.words.now) (origin_of c.in-Run.origin) = record { beginning = beginning_of c.in-Run.beginning; mode = c.in-Run.mode; over = c.in-Run.ensures } in
    record {
      ends = interviewed_by_word _ _ refl _ (inl (ends_refused _ (did_by (g.H.Shelf.files c.args.shelf.now) (g.H.Shelf.files c.obtain.new.shelf) (g.S.Source.input c.args.script.now) (g.S.Source.input c.args.script.now) (g.K.Sink.output c.args.out.now) (g.K.Sink.output c.end_by_fault.new.out)) (faulty_run _ _ had.0 _ asked had.1 had.2) (refl, refl) c.end_by_fault.result c.end_by_fault.ensures.text));
      calls = calls_of_run g.H.Shelf.fetched g.S.Source.pulled g.K.Sink.output (given_by c.args.words.now (named_checks c.args.checks.now) (named_relations c.args.relations.now) (g.H.Shelf.files c.args.shelf.now) (g.S.Source.input c.args.script.now)) c.end_by_fault.result c.args.shelf.now c.obtain.new.shelf c.args.script.now c.args.script.now c.args.out.now c.end_by_fault.new.out _ asked
          (inr (inl (none_as (beside g.H.Shelf.fetched c.args.script.now c.args.out.now) ⊥ (c.end_by_fault.result ≡ FetchFault) (λ wrong. absurd wrong) (never_by_text _ _ _ _ _ (λ e. cc) c.end_by_fault.ensures.puts) c.args.shelf.now c.obtain.new.shelf (named_checks c.args.checks.now) (origin_of c.in-Run.origin) called), refl, puts_line _ _ (codes "dictionary refused " ++ fault_name c.in-Ok-Refused.fault ++ fault_place c.in-Ok-Refused.fault) DictionaryRefused _ (λ all. all) c.end_by_fault.ensures.puts));
    }

pub returns-in-Err : goal.returns-in-Err
returns-in-Err g c =
    let asked : IsRun (texts c.args.words.now) (origin_of c.in-Run.origin) = record { beginning = beginning_of c.in-Run.beginning; mode = c.in-Run.mode; over = c.in-Run.ensures } in
    record {
      ends = interviewed_by_word _ _ refl _ (inl (ends_unobtained _ (did_by (g.H.Shelf.files c.args.shelf.now) (g.H.Shelf.files c.obtain.new.shelf) (g.S.Source.input c.args.script.now) (g.S.Source.input c.args.script.now) (g.K.Sink.output c.args.out.now) (g.K.Sink.output c.args.out.now)) _ asked c.in-Err.status refl (refl, refl) c.in-Err.ensures.not_obtained));
      calls = calls_of_run g.H.Shelf.fetched g.S.Source.pulled g.K.Sink.output (given_by c.args.words.now (named_checks c.args.checks.now) (named_relations c.args.relations.now) (g.H.Shelf.files c.args.shelf.now) (g.S.Source.input c.args.script.now)) c.in-Err.status c.args.shelf.now c.obtain.new.shelf c.args.script.now c.args.script.now c.args.out.now c.args.out.now _ asked
          (inr (in_vain (beside g.H.Shelf.fetched c.args.script.now c.args.out.now) (named_checks c.args.checks.now) (origin_of c.in-Run.origin) c.in-Err.status c.args.shelf.now c.obtain.new.shelf c.in-Err.ensures.by_calls c.in-Err.ensures.calls, refl, inl refl));
    }

pub returns-in-Check : goal.returns-in-Check
returns-in-Check g c = record {
  ends = interviewed_by_word _ _ refl _ (inl (ends_check _ (did_by (g.H.Shelf.files c.args.shelf.now) (g.H.Shelf.files c.check.new.shelf) (g.S.Source.input c.args.script.now) (g.S.Source.input c.args.script.now) (g.K.Sink.output c.args.out.now) (g.K.Sink.output c.check.new.out)) _ c.in-Check.ensures (refl, refl) c.check.result c.check.ensures.ends));
  calls = calls_of_check g.H.Shelf.fetched g.S.Source.pulled g.K.Sink.output (given_by c.args.words.now (named_checks c.args.checks.now) (named_relations c.args.relations.now) (g.H.Shelf.files c.args.shelf.now) (g.S.Source.input c.args.script.now)) c.check.result c.args.shelf.now c.check.new.shelf c.args.script.now c.args.script.now c.args.out.now c.check.new.out _ c.in-Check.ensures c.check.ensures.calls refl c.check.ensures.puts;
}

pub returns-in-Gen : goal.returns-in-Gen
returns-in-Gen g c = record {
  ends = interviewed_by_word _ _ refl _ (inr (inl (c.in-Gen.n, c.in-Gen.ensures, c.run_load.ensures.generated, (refl, refl))));
  calls = calls_of_gen g.H.Shelf.fetched g.S.Source.pulled g.K.Sink.output (given_by c.args.words.now (named_checks c.args.checks.now) (named_relations c.args.relations.now) (g.H.Shelf.files c.args.shelf.now) (g.S.Source.input c.args.script.now)) c.run_load.result c.args.shelf.now c.args.script.now c.args.out.now c.run_load.new.out _ c.in-Gen.ensures c.run_load.ensures.puts;
}

pub returns-in-Save : goal.returns-in-Save
returns-in-Save g c = record {
  ends = interviewed_by_word _ _ refl _ (inr (inr (c.run_and_save.ensures.ends (texts c.args.words.now) c.in-Save.ensures)));
  calls = calls_of_save g.H.Shelf.fetched g.S.Source.pulled g.K.Sink.output (given_by c.args.words.now (named_checks c.args.checks.now) (named_relations c.args.relations.now) (g.H.Shelf.files c.args.shelf.now) (g.S.Source.input c.args.script.now)) c.run_and_save.result c.args.shelf.now c.run_and_save.new.shelf c.args.script.now c.run_and_save.new.script c.args.out.now c.run_and_save.new.out _ c.in-Save.ensures (c.run_and_save.ensures.calls (texts c.args.words.now));
}

pub returns-in-Unknown : goal.returns-in-Unknown
returns-in-Unknown g c =
    let did = did_by (g.H.Shelf.files c.args.shelf.now) (g.H.Shelf.files c.args.shelf.now) (g.S.Source.input c.args.script.now) (g.S.Source.input c.args.script.now) (g.K.Sink.output c.args.out.now) (g.K.Sink.output c.end_by.new.out) in
    record {
      ends = interviewed_by_word _ did refl _ (inl (ends_unknown _ did c.in-Unknown.ensures (refl, refl) c.end_by.result c.end_by.ensures.text));
      calls = calls_of_none g.H.Shelf.fetched g.S.Source.pulled g.K.Sink.output (given_by c.args.words.now (named_checks c.args.checks.now) (named_relations c.args.relations.now) (g.H.Shelf.files c.args.shelf.now) (g.S.Source.input c.args.script.now)) c.end_by.result c.args.shelf.now c.args.script.now c.args.out.now c.end_by.new.out c.in-Unknown.ensures
          (puts_line _ _ (codes "usage: interview COMMAND ARGUMENTS") Usage _ (λ all. all) c.end_by.ensures.puts) (never_by_text _ _ _ _ _ (λ e. cc) c.end_by.ensures.puts);
    }
