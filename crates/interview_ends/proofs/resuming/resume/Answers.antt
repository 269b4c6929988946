use Rattle.std.proofs.Common.{refl}
use Rattle.interview_ends.proofs.ResumeLaws.{none_begins}
use Rattle.interview_ends.proofs.resuming.resume.Goals as goal

pub returns-in-Unanswered : goal.returns-in-Unanswered
returns-in-Unanswered g c = record {
  resumed = rw c.in-Unanswered.is (none_begins (g.H.Shelf.files c.args.shelf.now).contents _ _ c.new.ensures);
  not_resumed = tt;
  calls = rw c.in-Unanswered.is (refl, λ wrong. cc);
}

pub returns-in-Load : goal.returns-in-Load
returns-in-Load g c = record {
  resumed = rw c.in-Load.is c.resume_loaded.ensures.resumed;
  not_resumed = rw c.in-Load.is c.resume_loaded.ensures.not_resumed;
  calls = rw c.in-Load.is c.resume_loaded.ensures.calls;
}

pub returns-in-Carry : goal.returns-in-Carry
returns-in-Carry g c = record {
  resumed = rw c.in-Carry.is c.resume_carried.ensures.resumed;
  not_resumed = rw c.in-Carry.is c.resume_carried.ensures.not_resumed;
  calls = rw c.in-Carry.is c.resume_carried.ensures.calls;
}
