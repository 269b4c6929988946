-- The ends of an interview from those of its steps.
use Rattle.std.proofs.Common.{◌≡◌, ℕ, List, inl, inr, refl, sym, subst}
use Rattle.fg_io.specs.Outside.{Contents, Files}
use Rattle.std.specs.Io.KnownBytes.{Keeps}
use Rattle.std.proofs.KnownBytes.{Keeps-refl}
use Rattle.fg_io.proofs.PutLaws.{rose_behind}
use Rattle.script_lines.specs.Joined.{joined}
use Rattle.dictionary.specs.declared.fault.DictFault.{DictFault}
use Rattle.graph_session.specs.Rules.{Rules}
use Rattle.script_runs.specs.declared.status.Status.{Status}
use Rattle.script_runs.specs.declared.status.Status.TheVariants.{Done, DictionaryRefused, Usage, FetchFault, ReadFault, WriteFault, ScriptTooLong, NoMemory, SavedRefused}
use Rattle.interview_ends.specs.Origins.{Beginning, Origin, by_carry, by_load, file, program, unanswered}
use Rattle.interview.specs.Words.{HasNoForm, IsFrom, IsRun}
use Rattle.interview_ends.specs.Beginnings.{Basis, IsRefusedStart, IsStart, MayBring, Start}
use Rattle.interview_ends.specs.Dictionaries.{Content, HasFault, IsAcceptedAs, MayGive}
use Rattle.interview_ends.specs.DefinedEnds.{defined_fault, defined_saved_refused}
use Rattle.interview.specs.Interview.{usage}
use Rattle.script_runs.specs.ScriptEnds.{EndsBefore, EndsBehind}
use Rattle.interview_ends.specs.StepEnds.{EndedBy, NotFetched, NotObtained, NotResumed, RunEnds, StartEnds}
use Rattle.interview_ends.specs.Given.{Did, Given, Unread}
use Rattle.interview.specs.Ends.{AcceptedRun, BegunRun, Ends, RefusedRun, SavedRefusedRun, meaning_in}

-- ---- ends

abbrev pub accepted_run : (given : Given) (origin : Origin) (content : Content) (r : Rules) → IsRun given.words origin → MayGive given.contents origin content → IsAcceptedAs given.checks content r → AcceptedRun given
accepted_run given origin content r asked gave is = record { origin = origin; content = content; rules = r; asked = asked; gave = gave; is_accepted = is }

abbrev pub faulty_run : (given : Given) (origin : Origin) (content : Content) (fault : DictFault) → IsRun given.words origin → MayGive given.contents origin content → HasFault given.checks content fault → RefusedRun given
faulty_run given origin content fault asked gave is = record { origin = origin; content = content; fault = fault; asked = asked; gave = gave; is_fault = is }

-- a text that ends an interview, whole or in part
abbrev Ended : Did → List ℕ → Status → Status → Type 0
Ended did text whole status = EndedBy did.script.output.before did.script.output.after text whole status

module _ (given : Given) (did : Did) where
  ends_kept : did.script.output.before.taken ≡ did.script.output.after.taken → Keeps did.script.output.before.taken did.script.output.after.taken
  ends_kept still = subst (Keeps did.script.output.before.taken) still (Keeps-refl did.script.output.before.taken)

  -- ---- behind an accepted dictionary

  module _ (over : AcceptedRun given) where
    module _ (basis : Basis) (brought : MayBring given.contents over.asked.beginning basis) where
      abbrev begun : (s : Start) → IsStart over.rules basis s → BegunRun given
      begun s is = record { over = over; basis = basis; start = s; brought = brought; is_start = is }

      ends_script : (s : Start) (is : IsStart over.rules basis s) (status : Status) → EndsBehind (meaning_in given (begun s is)) (joined s.front) did.script status → Ends given did status
      ends_script s is Done ends = inl (begun s is, ends)
      ends_script s is ReadFault ends = (begun s is, ends)
      ends_script s is WriteFault ends = inl (begun s is, ends)
      ends_script s is ScriptTooLong ends = (begun s is, ends)
      ends_script s is NoMemory ends = inr (begun s is, ends)
      ends_script s is status ends = absurd ends.1.1

      ends_front : (s : Start) (is : IsStart over.rules basis s) (status : Status) → EndsBefore (joined s.front) did.script status → Ends given did status
      ends_front s is WriteFault ends = inr (ends.0, inr (inr (inr (inr (begun s is, ends.1, ends.2)))))
      ends_front s is NoMemory ends = inl ends
      ends_front s is status ends = absurd ends

      ends_begun : (s : Start) (is : IsStart over.rules basis s) (status : Status) → StartEnds (meaning_in given (begun s is)) (joined s.front) did.script status → Ends given did status
      ends_begun s is status (inl ends) = ends_script s is status ends
      ends_begun s is status (inr ends) = ends_front s is status ends

      ends_saved_refused : (n : ℕ) (is : IsRefusedStart over.rules basis n) → Unread did → (status : Status) → Ended did (defined_saved_refused n).text SavedRefused status → Ends given did status
      ends_saved_refused n is unread status ended =
          let run : SavedRefusedRun given = record { over = over; basis = basis; line = n; brought = brought; is_refused = is } in
          by_end run unread status ended
        where
          by_end : (run : SavedRefusedRun given) → Unread did → (status : Status) → Ended did (defined_saved_refused run.line).text SavedRefused status → Ends given did status
          by_end run unread status (inl (same, wrote)) = subst (Ends given did) (sym same) (run, wrote, unread)
          by_end run unread status (inr (same, rose, part)) = subst (Ends given did) (sym same) (inr (rose, inr (inr (inr (inl (run, part, unread))))))

    -- no saved text was had
    module _ (now : Files) (same : now.faults ≡ did.files.before.faults) (still : did.script.output.before.taken ≡ did.script.output.after.taken) (unread : Unread did) where
      ends_unfetched_text : (name : List ℕ) (status : Status) → IsFrom over.asked.beginning name → NotFetched name now did.files.after status → Ends given did status
      ends_unfetched_text name FetchFault from not = (rose_behind did.files.before.faults now.faults did.files.after.faults same not.0, inr (over, subst (IsFrom over.asked.beginning) (sym not.1) from), ends_kept still, unread)
      ends_unfetched_text name NoMemory from not = inl (ends_kept still, unread)
      ends_unfetched_text name status from not = absurd not

      ends_unresumed : (b : Beginning) → over.asked.beginning ≡ b → (status : Status) → NotResumed b now did.files.after status → Ends given did status
      ends_unresumed unanswered is status not = absurd not
      ends_unresumed (by_load name) is status not = ends_unfetched_text name status (subst (λ b. IsFrom b name) (sym is) refl) not
      ends_unresumed (by_carry name) is status not = ends_unfetched_text name status (subst (λ b. IsFrom b name) (sym is) refl) not

  abbrev of_run : Files → Did
  of_run now = record { files = record { before = now; after = did.files.after }; script = did.script }

  -- with what the shelf told before the saved text was fetched
  pub ends_run : (over : AcceptedRun given) (now : Files) (status : Status) → now.faults ≡ did.files.before.faults → now.contents ≡ given.contents → RunEnds now.contents over.asked.beginning over.rules over.asked.mode given.relations (of_run now) status → Ends given did status
  ends_run over now status uncounted same (inl (basis, brought, (s, is, ends))) = ends_begun over basis (subst (λ (t : List ℕ → Contents). MayBring t over.asked.beginning basis) same brought) s is status ends
  ends_run over now status uncounted same (inr (inl (basis, brought, (n, is, ended, unread)))) = ends_saved_refused over basis (subst (λ (t : List ℕ → Contents). MayBring t over.asked.beginning basis) same brought) n is unread status ended
  ends_run over now status uncounted same (inr (inr (not, still, unread))) = ends_unresumed over now uncounted still unread over.asked.beginning refl status not

  -- ---- words without a form

  pub ends_unknown : HasNoForm given.words → Unread did → (status : Status) → Ended did usage.text Usage status → Ends given did status
  ends_unknown none unread status (inl (same, wrote)) = subst (Ends given did) (sym same) (none, wrote, unread)
  ends_unknown none unread status (inr (same, rose, part)) = subst (Ends given did) (sym same) (inr (rose, inl (none, part, unread)))

  -- ---- a dictionary with a fault

  pub ends_refused : (run : RefusedRun given) → Unread did → (status : Status) → Ended did (defined_fault run.fault).text DictionaryRefused status → Ends given did status
  ends_refused run unread status (inl (same, wrote)) = subst (Ends given did) (sym same) (inl (run, wrote, unread))
  ends_refused run unread status (inr (same, rose, part)) = subst (Ends given did) (sym same) (inr (rose, inr (inl (run, part, unread))))

  -- ---- no dictionary was had

  ends_unfetched : (name : List ℕ) → IsRun given.words (file name) → (status : Status) → did.script.output.before.taken ≡ did.script.output.after.taken → Unread did → NotFetched name did.files.before did.files.after status → Ends given did status
  ends_unfetched name named FetchFault still unread not = (not.0, inl (inl (subst (λ n. IsRun given.words (file n)) (sym not.1) named)), ends_kept still, unread)
  ends_unfetched name named NoMemory still unread not = inl (ends_kept still, unread)
  ends_unfetched name named status still unread not = absurd not

  pub ends_unobtained : (origin : Origin) → IsRun given.words origin → (status : Status) → did.script.output.before.taken ≡ did.script.output.after.taken → Unread did → NotObtained origin did.files.before did.files.after status → Ends given did status
  ends_unobtained (file name) asked status still unread not = ends_unfetched name asked status still unread not
  ends_unobtained (program b) asked status still unread not = subst (Ends given did) (sym not) (inl (ends_kept still, unread))
