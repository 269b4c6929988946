use Rattle.std.proofs.Common.{inl, refl}
use Rattle.interview_ends.specs.CallsFor.{beside}
use Rattle.interview_ends.specs.Beginnings.{to_load}
use Rattle.interview_ends.specs.StepEnds.{NotResumed}
use Rattle.interview_ends.specs.Origins.{by_load}
use Rattle.interview_ends.proofs.CallsForLaws.{never_failed, no_error, once_as, same_error}
use Rattle.interview_ends.proofs.ResumeLaws.{resumed_by, wants_memory}
use Rattle.interview_ends.proofs.resuming.resume_loaded.Goals as goal

pub returns-in-Ok-Some : goal.returns-in-Ok-Some
returns-in-Ok-Some g c =
    let had = rw c.in-Ok-Some.field-0-is at c.in-Ok-Some.ensures.fetched in
    record {
      resumed = resumed_by (g.H.Shelf.files c.args.shelf.now).contents (by_load c.args.name.now) _ (to_load c.in-Ok-Some.bytes.items) had.0 c.load_ready.result (rw c.as_slice.ensures.value at c.load_ready.ensures.resumed);
      not_resumed = wants_memory (λ s. NotResumed (by_load c.args.name.now) (g.H.Shelf.files c.args.shelf.now) (g.H.Shelf.files c.fetch_text.new.shelf) s) tt c.load_ready.result c.load_ready.ensures.memory;
      calls = once_as (beside g.H.Shelf.fetched c.args.script.now c.args.out.now) _ _ (λ wrong. absurd (no_error _ _ wrong)) (λ wrong. absurd (never_failed c.load_ready.result c.load_ready.ensures.memory wrong)) c.args.shelf.now c.fetch_text.new.shelf _ _ c.in-Ok-Some.ensures.calls;
    }

pub returns-in-Ok-None : goal.returns-in-Ok-None
returns-in-Ok-None g c =
    let had = rw c.in-Ok-None.field-0-is at c.in-Ok-None.ensures.fetched in
    record {
      resumed = (to_load had.0, had.1, inl (had.2, refl));
      not_resumed = tt;
      calls = once_as (beside g.H.Shelf.fetched c.args.script.now c.args.out.now) _ _ (λ wrong. absurd (no_error _ _ wrong)) (λ wrong. absurd (no_error _ _ wrong)) c.args.shelf.now c.fetch_text.new.shelf _ _ c.in-Ok-None.ensures.calls;
    }

pub returns-in-Err-clause-calls : goal.returns-in-Err-clause-calls
returns-in-Err-clause-calls g c = once_as (beside g.H.Shelf.fetched c.args.script.now c.args.out.now) _ _ (same_error _ _) (same_error _ _) c.args.shelf.now c.fetch_text.new.shelf _ _ c.in-Err.ensures.calls
