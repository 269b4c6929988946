use Rattle.std.proofs.Common.{◌++◌, codes, length}
use Rattle.dictionary.specs.Keeping.{node_count}
use Rattle.dictionary.specs.AcceptedParts.{accepted}
use Rattle.session_lines.specs.Replies.{numbered}
use Rattle.interview_ends.specs.FaultLines.{fault_name, fault_place}
use Rattle.interview_ends.specs.declared.fetching.Fetched.TheVariants as fetches
use Rattle.interview_ends.specs.StepEnds.{check_did}
use Rattle.script_runs.specs.declared.status.Status.TheVariants.{Done, DictionaryRefused}
use Rattle.interview_ends.specs.CallsFor.{beside}
use Rattle.interview_ends.proofs.CallsForLaws.{as_error, error_is, never_by_text, no_error, once_as}
use Rattle.interview_ends.proofs.CheckLaws.{ends_fetched}
use Rattle.interview_ends.proofs.LastLineLaws.{puts_line}
use Rattle.interview_ends.proofs.checking.check.Goals as goal

pub returns-in-Ok-Accepted : goal.returns-in-Ok-Accepted
returns-in-Ok-Accepted g c =
    let found = rw c.in-Ok-Accepted.field-0-is at c.in-Ok-Accepted.ensures.fetched in
    record {
      ends = ends_fetched _ _ _ (check_did (g.H.Shelf.files c.args.shelf.now) (g.H.Shelf.files c.fetch.new.shelf) (g.K.Sink.output c.args.out.now) (g.K.Sink.output c.end_accepted-status.new.out)) (fetches.Accepted _) c.end_accepted-status.result found c.end_accepted-status.ensures.text;
      calls = once_as (beside g.H.Shelf.fetched c.args.script.now c.args.out.now) _ _ (λ wrong. absurd (no_error _ _ wrong)) (λ failed. absurd (never_by_text _ _ _ _ _ (λ e. cc) c.end_accepted-status.ensures.puts failed)) c.args.shelf.now c.fetch.new.shelf _ _ c.in-Ok-Accepted.ensures.calls;
      puts = puts_line _ _ (numbered (codes "dictionary accepted ") (length (accepted c.in-Ok-Accepted.dictionary).tree.facts) ++ numbered (codes " facts ") (node_count (accepted c.in-Ok-Accepted.dictionary).tree) ++ codes " nodes") Done _ (λ all. all) c.end_accepted-status.ensures.puts;
    }

pub returns-in-Ok-Refused : goal.returns-in-Ok-Refused
returns-in-Ok-Refused g c =
    let found = rw c.in-Ok-Refused.field-0-is at c.in-Ok-Refused.ensures.fetched in
    record {
      ends = ends_fetched _ _ _ (check_did (g.H.Shelf.files c.args.shelf.now) (g.H.Shelf.files c.fetch.new.shelf) (g.K.Sink.output c.args.out.now) (g.K.Sink.output c.end_by_fault.new.out)) (fetches.Refused _) c.end_by_fault.result found c.end_by_fault.ensures.text;
      calls = once_as (beside g.H.Shelf.fetched c.args.script.now c.args.out.now) _ _ (λ wrong. absurd (no_error _ _ wrong)) (λ failed. absurd (never_by_text _ _ _ _ _ (λ e. cc) c.end_by_fault.ensures.puts failed)) c.args.shelf.now c.fetch.new.shelf _ _ c.in-Ok-Refused.ensures.calls;
      puts = puts_line _ _ (codes "dictionary refused " ++ fault_name c.in-Ok-Refused.fault ++ fault_place c.in-Ok-Refused.fault) DictionaryRefused _ (λ all. all) c.end_by_fault.ensures.puts;
    }

pub returns-in-Err-clause-calls : goal.returns-in-Err-clause-calls
returns-in-Err-clause-calls g c = once_as (beside g.H.Shelf.fetched c.args.script.now c.args.out.now) _ _ (error_is _ _) (as_error _ _) c.args.shelf.now c.fetch.new.shelf _ _ c.in-Err.ensures.calls
