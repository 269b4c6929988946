use Rattle.std.proofs.Common.{◌≡◌, Err, Ok, codes, inl, inr, refl}
use Rattle.std.specs.Prelude.{IsErrOf}
use Rattle.session_lines.specs.Replies.{numbered}
use Rattle.script_runs.specs.declared.status.Status.TheVariants.{FetchFault, SavedRefused}
use Rattle.interview_ends.proofs.LastLineLaws.{puts_line}
use Rattle.interview_ends.specs.CallsFor.{beside}
use Rattle.interview_ends.specs.Origins.{beginning_of}
use Rattle.interview_ends.specs.declared.resuming.Resumed.{Resumed}
use Rattle.interview_ends.proofs.CallsForLaws.{as_error, error_is, never_by_start, never_by_text, no_error, saved_as, exchange_from}
use Rattle.interview.proofs.StartLaws.{begins_and_ends}
use Rattle.interview.proofs.top.run_from.Goals as goal

pub run_by-requires-clause-fit : goal.run_by-requires-clause-fit
run_by-requires-clause-fit g c = let had = rw c.in-Ok-Begins.field-0-is at c.in-Ok-Begins.ensures.resumed in had.2.2.fit

pub run_by-requires-clause-given : goal.run_by-requires-clause-given
run_by-requires-clause-given g c = let had = rw c.in-Ok-Begins.field-0-is at c.in-Ok-Begins.ensures.resumed in (had.2.0.front, had.2.2.front)

pub returns-in-Ok-Begins : goal.returns-in-Ok-Begins
returns-in-Ok-Begins g c =
    let had = rw c.in-Ok-Begins.field-0-is at c.in-Ok-Begins.ensures.resumed in
    record {
      ends = begins_and_ends _ _ _ c.args.mode _ _ c.in-Ok-Begins.ready c.run_by.result had c.run_by.ensures.ends;
      fetches = saved_as (beside g.H.Shelf.fetched c.args.script.now c.args.out.now) (IsErrOf {T = Resumed} (Ok c.in-Ok-Begins.field-0) FetchFault) (c.run_by.result ≡ FetchFault) (λ wrong. absurd (no_error c.in-Ok-Begins.field-0 FetchFault wrong)) (λ failed. absurd (never_by_start _ _ _ _ (c.run_by.ensures.ends had.2.0.front had.2.2.front) failed)) c.args.shelf.now c.resume.new.shelf (beginning_of c.args.beginning) c.in-Ok-Begins.ensures.calls;
      pulls = exchange_from g.S.Source.pulled g.K.Sink.output c.args.out.now c.run_by.new.out c.args.script.now c.run_by.new.script _ _ _ c.args.mode _ c.run_by.result c.in-Ok-Begins.ready had c.run_by.ensures.calls;
    }

pub returns-in-Ok-Refused : goal.returns-in-Ok-Refused
returns-in-Ok-Refused g c =
    let had = rw c.in-Ok-Refused.field-0-is at c.in-Ok-Refused.ensures.resumed in
    record {
      ends = inr (inl (had.0, had.1, (c.in-Ok-Refused.line, had.2, c.end_by_refused_line.ensures.text, (refl, refl))));
      fetches = saved_as (beside g.H.Shelf.fetched c.args.script.now c.args.out.now) (IsErrOf {T = Resumed} (Ok c.in-Ok-Refused.field-0) FetchFault) (c.end_by_refused_line.result ≡ FetchFault) (λ wrong. absurd (no_error c.in-Ok-Refused.field-0 FetchFault wrong)) (λ failed. absurd (never_by_text _ _ _ _ _ (λ e. cc) c.end_by_refused_line.ensures.puts failed)) c.args.shelf.now c.resume.new.shelf (beginning_of c.args.beginning) c.in-Ok-Refused.ensures.calls;
      pulls = inl (refl, (puts_line _ _ (numbered (codes "saved refused line ") c.in-Ok-Refused.line) SavedRefused _ (λ all. all) c.end_by_refused_line.ensures.puts));
    }

pub returns-in-Err : goal.returns-in-Err
returns-in-Err g c = record {
  ends = inr (inr (c.in-Err.ensures.not_resumed, refl, (refl, refl)));
  fetches = saved_as (beside g.H.Shelf.fetched c.args.script.now c.args.out.now) (IsErrOf {T = Resumed} (Err c.in-Err.status) FetchFault) (c.in-Err.status ≡ FetchFault) (error_is c.in-Err.status FetchFault) (as_error c.in-Err.status FetchFault) c.args.shelf.now c.resume.new.shelf (beginning_of c.args.beginning) c.in-Err.ensures.calls;
  pulls = inl (refl, inl refl);
}
