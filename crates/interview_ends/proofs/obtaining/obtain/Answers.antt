use Rattle.std.proofs.Common.{inr, refl}
use Rattle.interview_ends.specs.Dictionaries.{brought}
use Rattle.interview_ends.proofs.DictionaryLaws.{obtains_file}
use Rattle.interview_ends.proofs.obtaining.obtain.Goals as goal

pub returns-in-File : goal.returns-in-File
returns-in-File g c = record {
  obtained = rw c.in-File.is (obtains_file (g.H.Shelf.files c.args.shelf.now).contents c.in-File.name.now _ c.fetch.result c.fetch.ensures.fetched);
  not_obtained = rw c.in-File.is c.fetch.ensures.not_fetched;
  kept = c.fetch.ensures.kept;
  uncounted = c.fetch.ensures.uncounted;
  calls = rw c.in-File.is c.fetch.ensures.calls;
  by_calls = rw c.in-File.is c.fetch.ensures.by_calls;
}

pub returns-in-Ok : goal.returns-in-Ok
returns-in-Ok g c = record {
  obtained = rw c.in-BuiltIn.is (brought _, refl, c.in-Ok.ensures.accepted, inr c.in-Ok.ensures.no_check);
  not_obtained = tt;
  kept = refl;
  uncounted = refl;
  calls = rw c.in-BuiltIn.is (refl, λ wrong. cc);
  by_calls = rw c.in-BuiltIn.is (refl, c.in-Ok.ensures.accepted);
}

pub returns-in-Err-clause-calls : goal.returns-in-Err-clause-calls
returns-in-Err-clause-calls g c = rw c.in-BuiltIn.is (refl, λ wrong. cc)
