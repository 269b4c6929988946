-- The steps of a save lead to a row of the table of its ends.
use Rattle.std.proofs.Common.{◌≡◌, ℕ, List, inl, inr, sym, subst}
use Rattle.dictionary.specs.declared.fault.DictFault.{DictFault}
use Rattle.graph_session.specs.Rules.{Rules}
use Rattle.script_runs.specs.declared.status.Status.{Status}
use Rattle.script_runs.specs.declared.status.Status.TheVariants.{Done, DictionaryRefused, FetchFault, ReadFault, WriteFault, ScriptTooLong, NoMemory}
use Rattle.interview.specs.Words.{IsSave}
use Rattle.interview_ends.specs.Origins.{Origin, file, program}
use Rattle.interview_ends.specs.Dictionaries.{Content, HasFault, IsAcceptedAs, MayGive}
use Rattle.interview_ends.specs.Given.{Did, Given, Unread}
use Rattle.interview_ends.specs.DefinedEnds.{defined_fault}
use Rattle.interview_ends.specs.Save.{ScriptSaves, save_meaning}
use Rattle.interview.specs.SaveEnds.{AcceptedSave, SaveEnds}
use Rattle.interview_ends.specs.StepEnds.{EndedBy, NotFetched, NotObtained}
use Rattle.interview_ends.proofs.SaveLaws.{nothing}

module _ (given : Given) (did : Did) (origin : Origin) (asked : IsSave given.words origin) where
  module _ (content : Content) (gave : MayGive given.contents origin content) where
    pub save_ends_refused : (fault : DictFault) → HasFault given.checks content fault → Unread did → (status : Status)
        → EndedBy did.script.output.before did.script.output.after (defined_fault fault).text DictionaryRefused status → SaveEnds given did status
    save_ends_refused fault is unread status (inl (same, wrote)) = subst (SaveEnds given did) (sym same) (record { origin = origin; content = content; fault = fault; asked = asked; gave = gave; is_fault = is }, wrote, unread)
    save_ends_refused fault is unread status (inr (same, rose, part)) = subst (SaveEnds given did) (sym same) (inr (rose, (record { origin = origin; content = content; fault = fault; asked = asked; gave = gave; is_fault = is }, part, unread)))

    module _ (r : Rules) (is : IsAcceptedAs given.checks content r) where
      abbrev over : AcceptedSave given
      over = record { origin = origin; content = content; rules = r; asked = asked; gave = gave; is_accepted = is }

      pub save_ends_run : (status : Status) → ScriptSaves r (save_meaning r given.relations) did.script status → SaveEnds given did status
      save_ends_run Done ends = (over, ends)
      save_ends_run ReadFault ends = (over, ends)
      save_ends_run WriteFault ends = inl (over, ends)
      save_ends_run ScriptTooLong ends = (over, ends)
      save_ends_run NoMemory ends = inr (over, ends)
      save_ends_run status ends = absurd ends

  save_ends_unfetched : (name : List ℕ) → IsSave given.words (file name) → (status : Status) → did.script.output.before.taken ≡ did.script.output.after.taken → Unread did → NotFetched name did.files.before did.files.after status → SaveEnds given did status
  save_ends_unfetched name named FetchFault still unread not = (not.0, subst (λ n. IsSave given.words (file n)) (sym not.1) named, nothing _ _ still, unread)
  save_ends_unfetched name named NoMemory still unread not = inl ((origin, asked), nothing _ _ still, unread)
  save_ends_unfetched name named status still unread not = absurd not

pub save_ends_unobtained : (given : Given) (did : Did) (origin : Origin) → IsSave given.words origin → (status : Status) → did.script.output.before.taken ≡ did.script.output.after.taken → Unread did → NotObtained origin did.files.before did.files.after status → SaveEnds given did status
save_ends_unobtained given did (file name) asked status still unread not = save_ends_unfetched given did (file name) asked name asked status still unread not
save_ends_unobtained given did (program b) asked status still unread not = subst (SaveEnds given did) (sym not) (inl ((program b, asked), nothing _ _ still, unread))
