-- How an interview ends for the words that save.
use Rattle.std.proofs.Common.{◌≡◌, ℕ, List, [], ◌∷◌, Option, inl, inr, refl, sym, ap, subst}
use Rattle.std.specs.Prelude.{◌⊎◌}
use Rattle.std.proofs.KnownBytes.{Appends-kept}
use Rattle.std.proofs.lemmas.List.{append-nil}
use Rattle.fg_io.proofs.SentLaws.{appends_none}
use Rattle.fg_io.specs.Outside.{MayBe, Output, missing}
use Rattle.dictionary.specs.declared.fault.DictFault.{DictFault}
use Rattle.graph_session.specs.Rules.{Rules}
use Rattle.built_in.specs.declared.built_in.BuiltIn.{BuiltIn}
use Rattle.script_runs.specs.declared.status.Status.{Status}
use Rattle.script_runs.specs.declared.status.Status.TheVariants.{Done, DictionaryRefused, Usage, FetchFault, ReadFault, WriteFault, ScriptTooLong, NoMemory, SavedRefused}
use Rattle.interview.specs.Words.{IsCheck, IsRun, IsSave}
use Rattle.interview_ends.specs.Origins.{Origin, file, program}
use Rattle.script_runs.specs.Devices.{BeforeAfter, SentNothing, SentPart, SentWhole, SinkFailed, SourceFailed}
use Rattle.interview_ends.specs.Dictionaries.{Content, Gives, HasFault, IsAcceptedAs, MayGive}
use Rattle.interview_ends.specs.Given.{Did, EndedAs, Given, IsOneOf, Unread}
use Rattle.interview.specs.Ends.{Ends, EndsByWord, Interviewed, IsFetched, LinePart}
use Rattle.interview.specs.GenEnds.{GenInterviewed}
use Rattle.script_runs.specs.DefinedScript.{Defined}
use Rattle.interview_ends.specs.DefinedEnds.{defined_fault}
use Rattle.interview_ends.specs.Save.{DoneWith, defined_save, save_meaning, saved_after, text_with}
use Rattle.interview.specs.SaveEnds.{AcceptedSave, AreToSave, EndedBySave, KnownSave, RefusedSave, SaveComesTo, SaveEnds, SaveFetchFailed, SaveInterviewed}
use Rattle.script_runs.specs.ScriptEnds.{ReadThrough}
use Rattle.interview_ends.proofs.DictionaryLaws.{accepted_is_faultless, brought_is_faultless, known_content, nothing_missing}
use Rattle.interview.proofs.ExactLaws.{final_figures, finals, tables}
use Rattle.interview_ends.proofs.SaveLaws.{one_save}
use Rattle.interview.proofs.WordLaws.{gen_is_no_save, save_is_no_check, save_is_no_fetch, save_is_no_run, same_save}
use Rattle.script_runs.proofs.ScriptLaws.{nothing_part, part_of}

none_of_done : IsOneOf Done (FetchFault ∷ ReadFault ∷ ScriptTooLong ∷ NoMemory ∷ []) → ⊥
none_of_done (inl is) = cc
none_of_done (inr (inl is)) = cc
none_of_done (inr (inr (inl is))) = cc
none_of_done (inr (inr (inr (inl is)))) = cc
none_of_done (inr (inr (inr (inr is)))) = is

none_of_refused : IsOneOf DictionaryRefused (FetchFault ∷ ReadFault ∷ ScriptTooLong ∷ NoMemory ∷ []) → ⊥
none_of_refused (inl is) = cc
none_of_refused (inr (inl is)) = cc
none_of_refused (inr (inr (inl is))) = cc
none_of_refused (inr (inr (inr (inl is)))) = cc
none_of_refused (inr (inr (inr (inr is)))) = is

none_of_unwritten : IsOneOf WriteFault (FetchFault ∷ ReadFault ∷ ScriptTooLong ∷ NoMemory ∷ []) → ⊥
none_of_unwritten (inl is) = cc
none_of_unwritten (inr (inl is)) = cc
none_of_unwritten (inr (inr (inl is))) = cc
none_of_unwritten (inr (inr (inr (inl is)))) = cc
none_of_unwritten (inr (inr (inr (inr is)))) = is

-- what took nothing took the empty text
nothing_whole : (output : BeforeAfter Output) → SentNothing output → SentWhole output []
nothing_whole output kept = Appends-kept output.before.taken output.before.taken output.after.taken [] (appends_none output.before.taken) kept

-- some words that save, where it ended by their table
pub to_save : (given : Given) (did : Did) (status : Status) → SaveEnds given did status → AreToSave given.words
to_save given did Done (over, ends) = (over.origin, over.asked)
to_save given did DictionaryRefused (save, wrote, unread) = (save.origin, save.asked)
to_save given did FetchFault ends = (file did.files.after.failed_name, ends.1)
to_save given did ReadFault (over, ends) = (over.origin, over.asked)
to_save given did WriteFault (inl (over, ends)) = (over.origin, over.asked)
to_save given did WriteFault (inr (rose, (save, part, unread))) = (save.origin, save.asked)
to_save given did ScriptTooLong (over, ends) = (over.origin, over.asked)
to_save given did NoMemory (inl ends) = ends.0
to_save given did NoMemory (inr (over, ends)) = (over.origin, over.asked)
to_save given did Usage ends = absurd ends
to_save given did SavedRefused ends = absurd ends

module _ (given : Given) where
  -- ---- what is known

  -- the dictionary of the words is the one that is known
  content_is : (o : Origin) (known : Content) → IsSave given.words o → Gives given.contents o known → (p : Origin) (may : Content) → IsSave given.words p → MayGive given.contents p may → may ≡ known
  content_is o known asked gives p may asked_other gave = known_content given.contents o known may gives (subst (λ q. MayGive given.contents q may) (same_save given.words p o asked_other asked) gave)

  gone : (name : List ℕ) → IsSave given.words (file name) → given.contents name ≡ missing → (p : Origin) (may : Content) → IsSave given.words p → MayGive given.contents p may → ⊥
  gone name asked none p may asked_other gave = nothing_missing given.contents name may none (subst (λ q. MayGive given.contents q may) (same_save given.words p (file name) asked_other asked) gave)

  -- over an accepted dictionary it comes to what is defined of a script that is known
  accepted_comes : (k : KnownSave given) (over : AcceptedSave given) (script : List ℕ) → MayBe given.left script → SaveComesTo given k (defined_save over.rules (save_meaning over.rules given.relations) script)
  accepted_comes k over script may =
      let content = content_is k.origin k.content k.asked k.gives over.origin over.content over.asked over.gave in
      let same : k.script ≡ script = subst (λ (o : Option (List ℕ)). MayBe o script) k.read may in
      subst (λ l. SaveComesTo given k (defined_save over.rules (save_meaning over.rules given.relations) l)) same (inl (over.rules, subst (λ c. IsAcceptedAs given.checks c over.rules) content over.is_accepted, refl))

  refused_comes : (k : KnownSave given) (save : RefusedSave given) → SaveComesTo given k (defined_fault save.fault)
  refused_comes k save =
      let content = content_is k.origin k.content k.asked k.gives save.origin save.content save.asked save.gave in
      inr (save.fault, subst (λ c. HasFault given.checks c save.fault) content save.is_fault, refl)

  -- no save over a dictionary with a fault is one over an accepted dictionary
  not_accepted : (over : AcceptedSave given) (o : Origin) (content : Content) (fault : DictFault) → IsSave given.words o → Gives given.contents o content → HasFault given.checks content fault → ⊥
  not_accepted over o content fault asked gives is =
      let same = content_is o content asked gives over.origin over.content over.asked over.gave in
      accepted_is_faultless given.checks over.content over.rules fault over.is_accepted (subst (λ c. HasFault given.checks c fault) (sym same) is)

  -- the fault is the one that is known
  fault_is : (save : RefusedSave given) (o : Origin) (content : Content) (fault : DictFault) → IsSave given.words o → Gives given.contents o content → HasFault given.checks content fault → defined_fault save.fault ≡ defined_fault fault
  fault_is save o content fault asked gives is =
      let same = content_is o content asked gives save.origin save.content save.asked save.gave in
      one_save content given.checks given.relations [] (defined_fault save.fault) (defined_fault fault) (inr (save.fault, subst (λ c. HasFault given.checks c save.fault) same save.is_fault, refl)) (inr (fault, is, refl))

  module _ (did : Did) (same_left : did.script.input.before.left ≡ given.left) where
    may_be_given : (script : List ℕ) → MayBe did.script.input.before.left script → MayBe given.left script
    may_be_given script may = subst (λ l. MayBe l script) same_left may

    -- ---- ends that are defined

    -- where the script is done its text is what is saved
    text_done : (r : Rules) (script : List ℕ) → DoneWith (save_meaning r given.relations) did.script script → saved_after r (save_meaning r given.relations) script ≡ (defined_save r (save_meaning r given.relations) script).text
    text_done r script done = ap (λ s. text_with s (saved_after r (save_meaning r given.relations) script)) (sym done.1)

    ended_done : SaveEnds given did Done → (k : KnownSave given) → EndedBySave given k did Done
    ended_done (over, ((script, done, wrote), read)) k =
        (defined_save over.rules (save_meaning over.rules given.relations) script, accepted_comes k over script (may_be_given script done.0), (sym done.1, subst (SentWhole did.script.output) (text_done over.rules script done) wrote))

    -- nothing is written of a script that is too long
    ended_too_long : SaveEnds given did ScriptTooLong → (k : KnownSave given) → EndedBySave given k did ScriptTooLong
    ended_too_long (over, (script, may, is, kept)) k =
        let none : [] ≡ (defined_save over.rules (save_meaning over.rules given.relations) script).text = ap (λ s. text_with s (saved_after over.rules (save_meaning over.rules given.relations) script)) (sym is) in
        (defined_save over.rules (save_meaning over.rules given.relations) script, accepted_comes k over script (may_be_given script may), (sym is, subst (SentWhole did.script.output) none (nothing_whole did.script.output kept)))

    ended_refused : SaveEnds given did DictionaryRefused → (k : KnownSave given) → EndedBySave given k did DictionaryRefused
    ended_refused (save, wrote, unread) k = (defined_fault save.fault, refused_comes k save, (refl, wrote))

    -- ---- what is known of it

    missing_name : (status : Status) → SaveEnds given did status → (name : List ℕ) → IsSave given.words (file name) → given.contents name ≡ missing → IsOneOf status (FetchFault ∷ NoMemory ∷ [])
    missing_name Done (over, ends) name asked none = absurd (gone name asked none over.origin over.content over.asked over.gave)
    missing_name DictionaryRefused (save, wrote, unread) name asked none = absurd (gone name asked none save.origin save.content save.asked save.gave)
    missing_name FetchFault ends name asked none = inl refl
    missing_name ReadFault (over, ends) name asked none = absurd (gone name asked none over.origin over.content over.asked over.gave)
    missing_name WriteFault (inl (over, ends)) name asked none = absurd (gone name asked none over.origin over.content over.asked over.gave)
    missing_name WriteFault (inr (rose, (save, part, unread))) name asked none = absurd (gone name asked none save.origin save.content save.asked save.gave)
    missing_name ScriptTooLong (over, ends) name asked none = absurd (gone name asked none over.origin over.content over.asked over.gave)
    missing_name NoMemory ends name asked none = inr (inl refl)
    missing_name Usage ends name asked none = absurd ends
    missing_name SavedRefused ends name asked none = absurd ends

    refused : (status : Status) → SaveEnds given did status → (o : Origin) (content : Content) (fault : DictFault) → IsSave given.words o → Gives given.contents o content → HasFault given.checks content fault
        → EndedAs did status (defined_fault fault) ⊎ IsOneOf status (FetchFault ∷ WriteFault ∷ NoMemory ∷ [])
    refused Done (over, ends) o content fault asked gives is = absurd (not_accepted over o content fault asked gives is)
    refused DictionaryRefused (save, wrote, unread) o content fault asked gives is = inl (subst (EndedAs did DictionaryRefused) (fault_is save o content fault asked gives is) (refl, wrote))
    refused FetchFault ends o content fault asked gives is = inr (inl refl)
    refused ReadFault (over, ends) o content fault asked gives is = absurd (not_accepted over o content fault asked gives is)
    refused WriteFault ends o content fault asked gives is = inr (inr (inl refl))
    refused ScriptTooLong (over, ends) o content fault asked gives is = absurd (not_accepted over o content fault asked gives is)
    refused NoMemory ends o content fault asked gives is = inr (inr (inr (inl refl)))
    refused Usage ends o content fault asked gives is = absurd ends
    refused SavedRefused ends o content fault asked gives is = absurd ends

    refused_unread : (status : Status) → SaveEnds given did status → (o : Origin) (content : Content) (fault : DictFault) → IsSave given.words o → Gives given.contents o content → HasFault given.checks content fault → Unread did
    refused_unread Done (over, ends) o content fault asked gives is = absurd (not_accepted over o content fault asked gives is)
    refused_unread DictionaryRefused (save, wrote, unread) o content fault asked gives is = unread
    refused_unread FetchFault ends o content fault asked gives is = ends.3
    refused_unread ReadFault (over, ends) o content fault asked gives is = absurd (not_accepted over o content fault asked gives is)
    refused_unread WriteFault (inl (over, ends)) o content fault asked gives is = absurd (not_accepted over o content fault asked gives is)
    refused_unread WriteFault (inr (rose, (save, part, unread))) o content fault asked gives is = unread
    refused_unread ScriptTooLong (over, ends) o content fault asked gives is = absurd (not_accepted over o content fault asked gives is)
    refused_unread NoMemory (inl ends) o content fault asked gives is = ends.2
    refused_unread NoMemory (inr (over, ends)) o content fault asked gives is = absurd (not_accepted over o content fault asked gives is)
    refused_unread Usage ends o content fault asked gives is = absurd ends
    refused_unread SavedRefused ends o content fault asked gives is = absurd ends

    not_a_file : (b : BuiltIn) (name : List ℕ) → program b ≡ file name → ⊥
    not_a_file b name same = cc

    built_in : (status : Status) → SaveEnds given did status → (b : BuiltIn) → IsSave given.words (program b) → IsOneOf status (Done ∷ ReadFault ∷ WriteFault ∷ ScriptTooLong ∷ NoMemory ∷ [])
    built_in Done ends b asked = inl refl
    built_in DictionaryRefused (save, wrote, unread) b asked =
        absurd (brought_is_faultless given.contents given.checks b save.content save.fault (subst (λ q. MayGive given.contents q save.content) (same_save given.words save.origin (program b) save.asked asked) save.gave) save.is_fault)
    built_in FetchFault ends b asked = absurd (not_a_file b did.files.after.failed_name (same_save given.words (program b) (file did.files.after.failed_name) asked ends.1))
    built_in ReadFault ends b asked = inr (inl refl)
    built_in WriteFault ends b asked = inr (inr (inl refl))
    built_in ScriptTooLong ends b asked = inr (inr (inr (inl refl)))
    built_in NoMemory ends b asked = inr (inr (inr (inr (inl refl))))
    built_in Usage ends b asked = absurd ends
    built_in SavedRefused ends b asked = absurd ends

    exact : (status : Status) → SaveEnds given did status → (k : KnownSave given) → EndedBySave given k did status ⊎ IsOneOf status (FetchFault ∷ ReadFault ∷ WriteFault ∷ NoMemory ∷ [])
    exact Done ends k = inl (ended_done ends k)
    exact DictionaryRefused ends k = inl (ended_refused ends k)
    exact FetchFault ends k = inr (inl refl)
    exact ReadFault ends k = inr (inr (inl refl))
    exact WriteFault ends k = inr (inr (inr (inl refl)))
    exact ScriptTooLong ends k = inl (ended_too_long ends k)
    exact NoMemory ends k = inr (inr (inr (inr (inl refl))))
    exact Usage ends k = absurd ends
    exact SavedRefused ends k = absurd ends

    complete : (status : Status) → SaveEnds given did status → (k : KnownSave given) → (SaveFetchFailed given did → ⊥) → (SourceFailed did.script.input → ⊥) → (SinkFailed did.script.output → ⊥) → EndedBySave given k did status ⊎ (status ≡ NoMemory)
    complete Done ends k fetch read write = inl (ended_done ends k)
    complete DictionaryRefused ends k fetch read write = inl (ended_refused ends k)
    complete FetchFault ends k fetch read write = absurd (fetch (ends.0, ends.1))
    complete ReadFault (over, ends) k fetch read write = absurd (read ends.0)
    complete WriteFault (inl (over, ends)) k fetch read write = absurd (write ends.0)
    complete WriteFault (inr ends) k fetch read write = absurd (write ends.0)
    complete ScriptTooLong ends k fetch read write = inl (ended_too_long ends k)
    complete NoMemory ends k fetch read write = inr refl
    complete Usage ends k fetch read write = absurd ends
    complete SavedRefused ends k fetch read write = absurd ends

    -- a part of one text is a part of the text that is defined
    same_part : (k : KnownSave given) (d e : Defined) → SaveComesTo given k d → SaveComesTo given k e → SentPart did.script.output e.text → SentPart did.script.output d.text
    same_part k d e comes other part = subst (λ (f : Defined). SentPart did.script.output f.text) (one_save k.content given.checks given.relations k.script e d other comes) part

    whole_part : (text : List ℕ) → SentWhole did.script.output text → SentPart did.script.output text
    whole_part text wrote = part_of did.script.output text [] text (sym (append-nil text)) wrote

    ended_part : (status : Status) (k : KnownSave given) (d : Defined) → SaveComesTo given k d → EndedBySave given k did status → SentPart did.script.output d.text
    ended_part status k d comes (e, other, (is, wrote)) = same_part k d e comes other (whole_part e.text wrote)

    prefix : (status : Status) → SaveEnds given did status → (k : KnownSave given) (d : Defined) → SaveComesTo given k d → SentPart did.script.output d.text
    prefix Done ends k d comes = ended_part Done k d comes (ended_done ends k)
    prefix DictionaryRefused ends k d comes = ended_part DictionaryRefused k d comes (ended_refused ends k)
    prefix FetchFault ends k d comes = nothing_part did.script.output d.text ends.2
    prefix ReadFault (over, (rose, so_far, kept)) k d comes = nothing_part did.script.output d.text kept
    prefix WriteFault (inl (over, (rose, (script, done, part)))) k d comes =
        same_part k d (defined_save over.rules (save_meaning over.rules given.relations) script) comes (accepted_comes k over script (may_be_given script done.0)) (subst (SentPart did.script.output) (text_done over.rules script done) part)
    prefix WriteFault (inr (rose, (save, part, unread))) k d comes = same_part k d (defined_fault save.fault) comes (refused_comes k save) part
    prefix ScriptTooLong ends k d comes = ended_part ScriptTooLong k d comes (ended_too_long ends k)
    prefix NoMemory (inl ends) k d comes = nothing_part did.script.output d.text ends.1
    prefix NoMemory (inr (over, kept)) k d comes = nothing_part did.script.output d.text kept
    prefix Usage ends k d comes = absurd ends
    prefix SavedRefused ends k d comes = absurd ends

    unsaved : (status : Status) → SaveEnds given did status → IsOneOf status (FetchFault ∷ ReadFault ∷ ScriptTooLong ∷ NoMemory ∷ []) → SentNothing did.script.output
    unsaved FetchFault ends is = ends.2
    unsaved ReadFault (over, (rose, so_far, kept)) is = kept
    unsaved ScriptTooLong (over, (script, may, status, kept)) is = kept
    unsaved NoMemory (inl ends) is = ends.1
    unsaved NoMemory (inr (over, kept)) is = kept
    unsaved Done ends is = absurd (none_of_done is)
    unsaved DictionaryRefused ends is = absurd (none_of_refused is)
    unsaved WriteFault ends is = absurd (none_of_unwritten is)
    unsaved Usage ends is = absurd ends
    unsaved SavedRefused ends is = absurd ends

    read_through : (status : Status) → SaveEnds given did status → (k : KnownSave given) → status ≡ Done → (r : Rules) × IsAcceptedAs given.checks k.content r × ReadThrough (save_meaning r given.relations) did.script
    read_through Done (over, ends) k is =
        let same = content_is k.origin k.content k.asked k.gives over.origin over.content over.asked over.gave in
        (over.rules, subst (λ c. IsAcceptedAs given.checks c over.rules) same over.is_accepted, ends.1)
    read_through status ends k is = absurd cc

    -- ---- by the tables of ends

    -- by the tables of other words it ends for want of memory alone
    module _ (o : Origin) (asked : IsSave given.words o) where
      -- its words are those of no run
      no_run : (p : Origin) → IsRun given.words p → ⊥
      no_run p run = save_is_no_run given.words o p asked run

      no_check : (name : List ℕ) → IsCheck given.words name → ⊥
      no_check name check = save_is_no_check given.words o name asked check

      no_fetch : (name : List ℕ) → IsFetched given name → ⊥
      no_fetch name (inl fetched) = save_is_no_fetch given.words o name asked fetched
      no_fetch name (inr (over, from)) = no_run over.origin over.asked

      no_part : LinePart given did → ⊥
      no_part (inl part) = part.0.3 o asked
      no_part (inr (inl part)) = no_run part.0.origin part.0.asked
      no_part (inr (inr (inl part))) = no_check part.0.name part.0.asked
      no_part (inr (inr (inr (inl part)))) = no_run part.0.over.origin part.0.over.asked
      no_part (inr (inr (inr (inr part)))) = no_run part.0.over.origin part.0.over.asked

      ended : (status : Status) → Ends given did status → SaveEnds given did status
      ended Done (inl ends) = absurd (no_run ends.0.over.origin ends.0.over.asked)
      ended Done (inr ends) = absurd (no_check ends.0.name ends.0.asked)
      ended DictionaryRefused (inl ends) = absurd (no_run ends.0.origin ends.0.asked)
      ended DictionaryRefused (inr ends) = absurd (no_check ends.0.name ends.0.asked)
      ended Usage ends = absurd (ends.0.3 o asked)
      ended FetchFault ends = absurd (no_fetch did.files.after.failed_name ends.1)
      ended ReadFault ends = absurd (no_run ends.0.over.origin ends.0.over.asked)
      ended WriteFault (inl ends) = absurd (no_run ends.0.over.origin ends.0.over.asked)
      ended WriteFault (inr (rose, part)) = absurd (no_part part)
      ended ScriptTooLong ends = absurd (no_run ends.0.over.origin ends.0.over.asked)
      ended NoMemory (inl ends) = inl ((o, asked), ends.0, ends.1)
      ended NoMemory (inr ends) = absurd (no_run ends.0.over.origin ends.0.over.asked)
      ended SavedRefused ends = absurd (no_run ends.0.over.origin ends.0.over.asked)

      save_ended : (status : Status) → EndsByWord given did status → SaveEnds given did status
      save_ended status (inl ends) = ended status ends
      save_ended status (inr (inl ends)) = absurd (gen_is_no_save given.words ends.0 o ends.1 asked)
      save_ended status (inr (inr ends)) = ends

    pub known_saving : (status : Status) → EndsByWord given did status → SaveInterviewed given did status
    known_saving status ends = record {
      missing = λ name asked. missing_name status (save_ended (file name) asked status ends) name asked;
      refused = λ o content fault asked. refused status (save_ended o asked status ends) o content fault asked;
      refused_unread = λ o content fault asked. refused_unread status (save_ended o asked status ends) o content fault asked;
      built_in = λ b asked. built_in status (save_ended (program b) asked status ends) b asked;
      exact = λ k. exact status (save_ended k.origin k.asked status ends) k;
      complete = λ k. complete status (save_ended k.origin k.asked status ends) k;
      prefix = λ k. prefix status (save_ended k.origin k.asked status ends) k;
      unsaved = λ asked. unsaved status (save_ended asked.0 asked.1 status ends);
      read_through = λ k. read_through status (save_ended k.origin k.asked status ends) k;
    }

    -- ---- words that save have no other form

    -- what is known of other words holds for them, since they have none of theirs
    pub of_save : (status : Status) → SaveEnds given did status → GenInterviewed given did status → Interviewed given did status
    of_save status ends gen =
        let save = to_save given did status ends in
        let o = save.0 in
        let asked = save.1 in
        record {
          ends = inr (inr ends);
          no_form = λ none. absurd (none.3 o asked);
          missing = λ name fetches is. absurd (save_is_no_fetch given.words o name asked fetches);
          refused = λ p content fault run gives is. absurd (save_is_no_run given.words o p asked run);
          refused_unread = λ p content fault run gives is. absurd (save_is_no_run given.words o p asked run);
          saved_missing = λ dict name from is. absurd (save_is_no_run given.words o dict.origin asked dict.asked);
          saved_refused = λ dict basis line brings is. absurd (save_is_no_run given.words o dict.origin asked dict.asked);
          saved_refused_unread = λ dict basis line brings is. absurd (save_is_no_run given.words o dict.origin asked dict.asked);
          built_in = λ b run none. absurd (save_is_no_run given.words o (program b) asked run);
          built_in_carried = λ b run. absurd (save_is_no_run given.words o (program b) asked run);
          exact = λ run. absurd (save_is_no_run given.words o run.origin asked run.asked);
          complete = λ run fetch read write. absurd (save_is_no_run given.words o run.origin asked run.asked);
          prefix = λ run d comes. absurd (save_is_no_run given.words o run.origin asked run.asked);
          read_through = λ run is. absurd (save_is_no_run given.words o run.origin asked run.asked);
          finals = finals given did same_left;
          tables = tables given did same_left;
          final_figures = final_figures given did same_left;
          check_unread = λ name check. absurd (save_is_no_check given.words o name asked check);
          check_refused = λ check fault is. absurd (save_is_no_check given.words o check.name asked check.asked);
          check_exact = λ check. absurd (save_is_no_check given.words o check.name asked check.asked);
          check_prefix = λ check d comes. absurd (save_is_no_check given.words o check.name asked check.asked);
          check_complete = λ check fetch write. absurd (save_is_no_check given.words o check.name asked check.asked);
          gen = gen;
          saving = known_saving status (inr (inr ends));
        }
