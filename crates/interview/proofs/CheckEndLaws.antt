-- A check ends as the table of ends says.
use Rattle.std.proofs.Common.{ℕ, List, inl, inr, refl, sym, subst}
use Rattle.script_runs.specs.declared.status.Status.{Status}
use Rattle.script_runs.specs.declared.status.Status.TheVariants.{Done, DictionaryRefused, FetchFault, WriteFault, NoMemory}
use Rattle.interview.specs.Words.{IsCheck}
use Rattle.interview_ends.specs.StepEnds.{CheckDid, CheckEnds, JudgedAs}
use Rattle.interview_ends.specs.Given.{Did, Given, Unread}
use Rattle.interview.specs.Ends.{Check, Ends}

module _ (given : Given) (did : Did) (name : List ℕ) (asked : IsCheck given.words name) (unread : Unread did) where
  abbrev did_of_check : CheckDid
  did_of_check = record { files = did.files; output = did.script.output }

  abbrev of_judged : (text : List ℕ) (status : Status) → JudgedAs (given.contents name) given.checks text status → Check given
  of_judged text status judged = record {
    name = name;
    bytes = judged.0;
    outcome = record { text = text; status = status };
    asked = asked;
    held = judged.1;
    judged = judged.2;
  }

  pub ends_check : (status : Status) → CheckEnds (given.contents name) given.checks name did_of_check status → Ends given did status
  ends_check Done ends = inr (of_judged ends.0 Done ends.1, refl, ends.2, unread)
  ends_check DictionaryRefused ends = inr (of_judged ends.0 DictionaryRefused ends.1, refl, ends.2, unread)
  ends_check FetchFault ends = (ends.0, inl (inr (subst (IsCheck given.words) (sym ends.1) asked)), ends.2, unread)
  ends_check WriteFault ends = inr (ends.0, inr (inr (inl (of_judged ends.1.0 ends.1.1.0 ends.1.1.1.0, ends.1.1.1.1, unread))))
  ends_check NoMemory ends = inl (ends, unread)
  ends_check status ends = absurd ends
