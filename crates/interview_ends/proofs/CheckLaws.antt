-- A check has one end at most, and its steps lead to it.
use Rattle.std.proofs.Common.{◌≡◌, ℕ, false, List, inl, inr, refl, sym, ap, subst, ◌∙◌}
use Rattle.fg_io.specs.Outside.{Contents}
use Rattle.dictionary.specs.declared.fault.DictFault.{DictFault}
use Rattle.dictionary.specs.declared.fault.DictFault.TheVariants as faults
use Rattle.dictionary.specs.AcceptedParts.{Named, accepted, names_of}
use Rattle.dictionary.specs.Faults.{IsFault, Refuses}
use Rattle.dictionary.proofs.FirstLaws.{accepted_has_none, one_dictionary, one_fault}
use Rattle.script_runs.specs.declared.status.Status.{Status}
use Rattle.interview_ends.specs.declared.fetching.Fetched.{Fetched}
use Rattle.interview_ends.specs.declared.fetching.Fetched.TheVariants as fetches
use Rattle.interview_ends.specs.FaultLines.{is_memory}
use Rattle.script_runs.specs.DefinedScript.{Defined}
use Rattle.interview_ends.specs.DefinedEnds.{defined_accepted, defined_fault, OneEndOfCheck}
use Rattle.script_runs.specs.Devices.{SentWhole}
use Rattle.interview_ends.specs.StepEnds.{CheckDid, CheckEnds, EndedBy, FetchedAs, JudgedAs, defined_fetched}

-- ---- what they come to

pub one_end : OneEndOfCheck
one_end bytes checks d e (inl (dict, is, to)) (inl (other, is_other, to_other)) = to ∙ ap defined_accepted (one_dictionary bytes (names_of checks) dict other is is_other) ∙ sym to_other
one_end bytes checks d e (inl (dict, is, to)) (inr (fault, is_fault, to_fault)) = absurd (accepted_has_none bytes (names_of checks) dict fault is is_fault)
one_end bytes checks d e (inr (fault, is_fault, to_fault)) (inl (dict, is, to)) = absurd (accepted_has_none bytes (names_of checks) dict fault is is_fault)
one_end bytes checks d e (inr (fault, is, to)) (inr (other, is_other, to_other)) = to ∙ ap defined_fault (one_fault bytes (names_of checks) fault other is is_other) ∙ sym to_other

-- what refuses it, but for want of memory, is its fault
pub refused_for : (bytes : List ℕ) (names : List (List ℕ)) (fault : DictFault) → is_memory fault ≡ false → Refuses (IsFault bytes names) fault → IsFault bytes names fault
refused_for bytes names faults.NoMemory none h = absurd cc
refused_for bytes names fault none h = h

-- ---- how it ends

module _ (contents : Contents) (checks : List Named) (name : List ℕ) (did : CheckDid) where
  ends_whole : (text : List ℕ) (whole : Status) → JudgedAs contents checks text whole → SentWhole did.output text → CheckEnds contents checks name did whole
  ends_whole text whole (bytes, held, inl (dict, is, to)) wrote =
      subst (λ w. JudgedAs contents checks text w → CheckEnds contents checks name did w) (sym (ap (λ (d : Defined). d.status) to)) (λ judged. (text, judged, wrote)) (bytes, held, inl (dict, is, to))
  ends_whole text whole (bytes, held, inr (fault, is, to)) wrote =
      subst (λ w. JudgedAs contents checks text w → CheckEnds contents checks name did w) (sym (ap (λ (d : Defined). d.status) to)) (λ judged. (text, judged, wrote)) (bytes, held, inr (fault, is, to))

  ends_judged : (text : List ℕ) (whole status : Status) → JudgedAs contents checks text whole → EndedBy did.output.before did.output.after text whole status → CheckEnds contents checks name did status
  ends_judged text whole status judged (inl (is, wrote)) = subst (CheckEnds contents checks name did) (sym is) (ends_whole text whole judged wrote)
  ends_judged text whole status judged (inr (is, rose, part)) = subst (CheckEnds contents checks name did) (sym is) (rose, (text, (whole, (judged, part))))

  -- a dictionary, or its fault, that was fetched
  judged : (fetched : Fetched) → FetchedAs contents checks fetched → JudgedAs contents checks (defined_fetched fetched).text (defined_fetched fetched).status
  judged (fetches.Accepted dict) (bytes, held, is) = (bytes, held, inl (accepted dict, is.0, refl))
  judged (fetches.Refused fault) (bytes, held, is) = (bytes, held, inr (fault, is, refl))

  pub ends_fetched : (fetched : Fetched) (status : Status) → FetchedAs contents checks fetched
      → EndedBy did.output.before did.output.after (defined_fetched fetched).text (defined_fetched fetched).status status → CheckEnds contents checks name did status
  ends_fetched fetched status found ended = ends_judged (defined_fetched fetched).text (defined_fetched fetched).status status (judged fetched found) ended
