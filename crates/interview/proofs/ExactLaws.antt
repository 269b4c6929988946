-- What follows from the table of ends where the outside tells its contents.
use Rattle.std.proofs.Common.{◌≡◌, ℕ, true, List, [], ◌∷◌, ◌++◌, take, drop, Option, inl, inr, refl, sym, ap, subst, ◌∙◌, append_assoc, take-append-drop}
use Rattle.std.specs.Prelude.{◌⊎◌}
use Rattle.std.specs.Io.KnownBytes.{Appends}
use Rattle.std.proofs.lemmas.List.{append-nil}
use Rattle.fg_io.specs.Outside.{Contents, MayBe, MayHold, Output, holds, missing}
use Rattle.dictionary.specs.declared.fault.DictFault.{DictFault}
use Rattle.fg_io.proofs.ConsumedLaws.{consumes_none, may_go_on}
use Rattle.script_lines.specs.Joined.{joined}
use Rattle.script_lines.specs.Lines.{ScriptLine, ended_lines}
use Rattle.dictionary.specs.AcceptedParts.{names_of}
use Rattle.dictionary.specs.Faults.{IsFault}
use Rattle.graph_session.specs.Rules.{Rules}
use Rattle.built_in.specs.declared.built_in.BuiltIn.{BuiltIn}
use Rattle.script_runs.specs.declared.status.Status.{Status}
use Rattle.script_runs.specs.declared.status.Status.TheVariants.{Done, DictionaryRefused, Usage, FetchFault, ReadFault, WriteFault, ScriptTooLong, NoMemory, SavedRefused}
use Rattle.script_runs.specs.declared.mode.Mode.{Mode}
use Rattle.script_runs.specs.declared.mode.Mode.TheVariants.{Incremental}
use Rattle.interview_ends.specs.Origins.{Beginning, Origin, file, program, unanswered}
use Rattle.interview.specs.Words.{IsRun, IsCheck, Fetches, HasNoForm, IsFrom}
use Rattle.interview_ends.specs.Beginnings.{Basis, Brings, IsRefusedStart, IsStart, MayBring, Start}
use Rattle.interview_ends.specs.Dictionaries.{Content, Gives, HasFault, IsAcceptedAs, MayGive}
use Rattle.interview_ends.specs.DefinedEnds.{ChecksTo, defined_fault, defined_saved_refused}
use Rattle.script_runs.specs.DefinedScript.{Defined, answered_lines, defined_script}
use Rattle.interview.specs.Interview.{GoesOnTo, RunsTo, TablesHoldIn, defined_run}
use Rattle.interview.specs.Finals.{AreFinalsKept}
use Rattle.interview.specs.FinalFigures.{FinalsAreFigures}
use Rattle.interview.proofs.FigureLaws.{finals_are_figures}
use Rattle.script_runs.specs.Meanings.{meaning_of, texts}
use Rattle.script_runs.specs.Devices.{BeforeAfter, SentPart, SentWhole, SinkFailed, SourceFailed}
use Rattle.interview.specs.GenEnds.{GenInterviewed}
use Rattle.interview.specs.SaveEnds.{SaveInterviewed}
use Rattle.script_runs.specs.ScriptEnds.{ReadThrough, ScriptEndsAs, did_behind}
use Rattle.interview_ends.specs.Given.{Did, EndedAs, Given, IsOneOf, Unread}
use Rattle.interview.specs.Ends.{AcceptedRun, BegunRun, RefusedRun, SavedRefusedRun, Check, CheckEndsAs, ComesTo, KnownDictionary, KnownRun, KnownCheck, LinePart, Ends, EndedByCheck, EndedByRun, FetchFailed, Interviewed, IsFetched, RefusedEnds, meaning_in}
use Rattle.interview.proofs.BeginningLaws.{fits_at_start, known_basis, none_refused, nothing_brought, one_refusal, start_is_not_refused}
use Rattle.interview_ends.proofs.CheckLaws.{one_end}
use Rattle.interview_ends.proofs.DictionaryLaws.{accepted_is_faultless, brought_is_faultless, brought_is_this, known_content, nothing_missing, one_first_fault, one_set_of_rules, rules_are_accepted, rules_are_accepted_so}
use Rattle.interview.proofs.TableLaws.{tables_hold}
use Rattle.interview.proofs.LeadLaws.{lines_lead_to_fit}
use Rattle.interview.proofs.RunLaws.{one_run}
use Rattle.interview.proofs.StartLaws.{part_behind, read_behind, taken_from, whole_behind}
use Rattle.interview.proofs.WordLaws.{brought_unfetched, from_none, none_fetched, not_both, program_mode, same_beginning, same_check, same_mode, same_origin}
use Rattle.interview.proofs.FinalLaws.{finals_are_kept}
use Rattle.script_runs.proofs.MeaningLaws.{meaning_begins}
use Rattle.script_runs.proofs.ScriptLaws.{ended_are_answered, nothing_part, part_by_lines, part_of}

module _ (given : Given) where
  -- an accepted dictionary, a saved text where one is named, and a script that it may have been given, and what they come to
  record WentOn (content : Content) (beginning : Beginning) (mode : Mode) (outcome : Defined) : Type 0 where
    pub rules : Rules
    pub basis : Basis
    pub script : List ℕ
    pub is_accepted : IsAcceptedAs given.checks content rules
    pub brought : MayBring given.contents beginning basis
    pub read : MayBe given.left script
    pub goes : GoesOnTo rules basis mode given.relations script outcome

  -- or a dictionary with a fault
  abbrev CameTo : Content → Beginning → Mode → Defined → Type 0
  CameTo content beginning mode outcome = WentOn content beginning mode outcome ⊎ ((fault : DictFault) × HasFault given.checks content fault × (outcome ≡ defined_fault fault))

  -- a run that it may have been given, and what it comes to: where contents are known, it was given it
  record Run : Type 0 where
    pub origin : Origin
    pub content : Content
    pub outcome : Defined
    pub asked : IsRun given.words origin
    pub gave : MayGive given.contents origin content
    pub came : CameTo content asked.beginning asked.mode outcome

  -- ---- what is known

  -- the dictionary of the words is the one that is known
  content_is : (o : Origin) (known : Content) → IsRun given.words o → Gives given.contents o known → (p : Origin) (may : Content) → IsRun given.words p → MayGive given.contents p may → may ≡ known
  content_is o known asked gives p may asked_other gave = known_content given.contents o known may gives (subst (λ q. MayGive given.contents q may) (same_origin given.words p o asked_other asked) gave)

  -- and so is the saved text
  basis_is : (o : Origin) (asked : IsRun given.words o) (known : Basis) → Brings given.contents asked.beginning known → (p : Origin) (asked_other : IsRun given.words p) (may : Basis) → MayBring given.contents asked_other.beginning may → may ≡ known
  basis_is o asked known brings p asked_other may brought = known_basis given.contents asked.beginning known may brings (subst (λ b. MayBring given.contents b may) (same_beginning given.words p o asked_other asked) brought)

  -- a run that may have been given is the one that is known
  known_came : (k : KnownRun given) (run : Run) → CameTo run.content run.asked.beginning run.asked.mode run.outcome → RunsTo run.content given.checks k.basis k.asked.mode given.relations k.script run.outcome
  known_came k run (inl went) =
      let basis = basis_is k.origin k.asked k.basis k.brings run.origin run.asked went.basis went.brought in
      let mode = same_mode given.words run.origin k.origin run.asked k.asked in
      let script = subst (λ (o : Option (List ℕ)). MayBe o went.script) k.read went.read in
      inl (
        went.rules,
        went.is_accepted,
        subst (λ b. GoesOnTo went.rules b k.asked.mode given.relations k.script run.outcome) basis
            (subst (λ e. GoesOnTo went.rules went.basis e given.relations k.script run.outcome) mode
            (subst (λ l. GoesOnTo went.rules went.basis run.asked.mode given.relations l run.outcome) (sym script) went.goes)),
      )
  known_came k run (inr refused) = inr refused

  known_run : (k : KnownRun given) (run : Run) → ComesTo given k run.outcome
  known_run k run =
      let content = content_is k.origin k.content k.asked k.gives run.origin run.content run.asked run.gave in
      subst (λ c. RunsTo c given.checks k.basis k.asked.mode given.relations k.script run.outcome) content (known_came k run run.came)

  -- what the name of a check may hold is what is known of it
  check_holds : (name other may : List ℕ) (contents : Contents) → IsCheck given.words name → given.contents name ≡ contents → IsCheck given.words other → MayHold (given.contents other) may → MayHold contents may
  check_holds name other may contents asked is asked_other held = subst (λ t. MayHold t may) (ap given.contents (same_check given.words other name asked_other asked) ∙ is) held

  -- a check that may have been given is that of the dictionary that is known
  known_check : (k : KnownCheck given) (check : Check given) → ChecksTo k.bytes given.checks check.outcome
  known_check k check =
      let bytes = check_holds k.name check.name check.bytes (holds k.bytes) k.asked k.held check.asked check.held in
      subst (λ b. ChecksTo b given.checks check.outcome) (sym bytes) check.judged

  -- no dictionary comes from a name that isn't there
  gone_run : (name : List ℕ) → Fetches given.words name → given.contents name ≡ missing → (p : Origin) (may : Content) → IsRun given.words p → MayGive given.contents p may → ⊥
  gone_run name (inl asked) none p may asked_other gave = nothing_missing given.contents name may none (subst (λ q. MayGive given.contents q may) (same_origin given.words p (file name) asked_other asked) gave)
  gone_run name (inr asked) none p may asked_other gave = not_both given.words p name asked_other asked

  gone_over : (name : List ℕ) → Fetches given.words name → given.contents name ≡ missing → AcceptedRun given → ⊥
  gone_over name asked none over = gone_run name asked none over.origin over.content over.asked over.gave

  gone_check : (name : List ℕ) → Fetches given.words name → given.contents name ≡ missing → (check : Check given) → ⊥
  gone_check name (inl asked) none check = not_both given.words (file name) check.name asked check.asked
  gone_check name (inr asked) none check = check_holds name check.name check.bytes missing asked none check.asked check.held

  -- ---- an accepted dictionary that is known

  module _ (dict : KnownDictionary given) where
    same_dictionary : (p : Origin) (may : Content) → IsRun given.words p → MayGive given.contents p may → may ≡ dict.content
    same_dictionary p may asked gave = content_is dict.origin dict.content dict.asked dict.gives p may asked gave

    not_faulty : RefusedRun given → ⊥
    not_faulty run =
        let same = same_dictionary run.origin run.content run.asked run.gave in
        accepted_is_faultless given.checks dict.content dict.rules run.fault dict.is_accepted (subst (λ c. HasFault given.checks c run.fault) same run.is_fault)

    rules_are : (over : AcceptedRun given) → over.rules ≡ dict.rules
    rules_are over =
        let same = same_dictionary over.origin over.content over.asked over.gave in
        one_set_of_rules given.checks dict.content over.rules dict.rules (subst (λ c. IsAcceptedAs given.checks c over.rules) same over.is_accepted) dict.is_accepted

    -- no saved text comes from a name that isn't there
    module _ (name : List ℕ) (from : IsFrom dict.asked.beginning name) (none : given.contents name ≡ missing) where
      text_gone : (over : AcceptedRun given) (basis : Basis) → MayBring given.contents over.asked.beginning basis → ⊥
      text_gone over basis brought = nothing_brought given.contents dict.asked.beginning name basis from none (subst (λ b. MayBring given.contents b basis) (same_beginning given.words over.origin dict.origin over.asked dict.asked) brought)

    -- a saved text that is known and refused
    module _ (known : Basis) (n : ℕ) (brings : Brings given.contents dict.asked.beginning known) (is : IsRefusedStart dict.rules known n) where
      text_is : (over : AcceptedRun given) (basis : Basis) → MayBring given.contents over.asked.beginning basis → basis ≡ known
      text_is over basis brought = basis_is dict.origin dict.asked known brings over.origin over.asked basis brought

      not_begun : BegunRun given → ⊥
      not_begun run =
          let start = subst (λ r. IsStart r run.basis run.start) (rules_are run.over) run.is_start in
          start_is_not_refused dict.rules known run.start n (subst (λ b. IsStart dict.rules b run.start) (text_is run.over run.basis run.brought) start) is

      at_line : (run : SavedRefusedRun given) → run.line ≡ n
      at_line run =
          let refused = subst (λ r. IsRefusedStart r run.basis run.line) (rules_are run.over) run.is_refused in
          one_refusal dict.rules known run.line n (subst (λ b. IsRefusedStart dict.rules b run.line) (text_is run.over run.basis run.brought) refused) is

  module _ (did : Did) (same_left : did.script.input.before.left ≡ given.left) where
    -- ---- runs by what they come to

    -- the run has this status, and its text was written whole
    abbrev RunEndsAs : Status → Type 0
    RunEndsAs status = (run : Run) × (run.outcome.status ≡ status) × SentWhole did.script.output run.outcome.text

    abbrev EndsAs : Status → Type 0
    EndsAs status = RunEndsAs status ⊎ CheckEndsAs given did status

    abbrev begun_run : (run : BegunRun given) (script : List ℕ) → MayBe did.script.input.before.left script → Run
    begun_run run script read = record {
      origin = run.over.origin;
      content = run.over.content;
      outcome = defined_run run.over.rules run.over.asked.mode given.relations run.start script;
      asked = run.over.asked;
      gave = run.over.gave;
      came = inl (record {
        rules = run.over.rules;
        basis = run.basis;
        script = script;
        is_accepted = run.over.is_accepted;
        brought = run.brought;
        read = subst (λ l. MayBe l script) same_left read;
        goes = inl (run.start, run.is_start, refl);
      });
    }

    -- over a refused saved text the script may have been any
    abbrev saved_refused_run : SavedRefusedRun given → Run
    saved_refused_run run =
        let some = may_go_on given.left given.left [] (consumes_none given.left) in
        record {
          origin = run.over.origin;
          content = run.over.content;
          outcome = defined_saved_refused run.line;
          asked = run.over.asked;
          gave = run.over.gave;
          came = inl (record {
            rules = run.over.rules;
            basis = run.basis;
            script = some.0;
            is_accepted = run.over.is_accepted;
            brought = run.brought;
            read = some.1;
            goes = inr (run.line, run.is_refused, refl);
          });
        }

    abbrev refused_run : RefusedRun given → Run
    refused_run run = record { origin = run.origin; content = run.content; outcome = defined_fault run.fault; asked = run.asked; gave = run.gave; came = inr (run.fault, run.is_fault, refl) }

    run_ended : (run : BegunRun given) (taken : Option (List ℕ)) → Appends did.script.output.before.taken taken (joined run.start.front) → (status : Status) → ScriptEndsAs (meaning_in given run) (did_behind did.script taken) status → RunEndsAs status
    run_ended run taken front status ends = (
      begun_run run ends.0 ends.1,
      ends.2,
      whole_behind did.script.output taken (joined run.start.front) (defined_script (meaning_in given run) ends.0).text front ends.3,
    )

    done_ended : Ends given did Done → EndsAs Done
    done_ended (inl (run, (taken, (front, ends)))) = inl (run_ended run taken front Done ends.0)
    done_ended (inr ends) = inr ends

    refused_ended : Ends given did DictionaryRefused → EndsAs DictionaryRefused
    refused_ended (inl ends) = inl (refused_run ends.0, refl, ends.1)
    refused_ended (inr ends) = inr ends

    too_long_ended : Ends given did ScriptTooLong → EndsAs ScriptTooLong
    too_long_ended (run, (taken, (front, ends))) = inl (run_ended run taken front ScriptTooLong ends)

    saved_ended : Ends given did SavedRefused → EndsAs SavedRefused
    saved_ended ends = inl (saved_refused_run ends.0, refl, ends.1)

    -- ---- words without a form

    none_ended : (status : Status) → EndsAs status → HasNoForm given.words → ⊥
    none_ended status (inl ends) none = none.0 ends.0.origin ends.0.asked
    none_ended status (inr ends) none = none.1 ends.0.name ends.0.asked

    none_is_fetched : (name : List ℕ) → HasNoForm given.words → IsFetched given name → ⊥
    none_is_fetched name none (inl fetched) = none_fetched given.words name none fetched
    none_is_fetched name none (inr (over, from)) = none.0 over.origin over.asked

    no_form : (status : Status) → Ends given did status → HasNoForm given.words → IsOneOf status (Usage ∷ WriteFault ∷ NoMemory ∷ [])
    no_form Done ends none = absurd (none_ended Done (done_ended ends) none)
    no_form Usage ends none = inl refl
    no_form FetchFault ends none = absurd (none_is_fetched did.files.after.failed_name none ends.1)
    no_form ReadFault ends none = absurd (none.0 ends.0.over.origin ends.0.over.asked)
    no_form WriteFault ends none = inr (inl refl)
    no_form ScriptTooLong ends none = absurd (none_ended ScriptTooLong (too_long_ended ends) none)
    no_form NoMemory ends none = inr (inr (inl refl))
    no_form DictionaryRefused ends none = absurd (none_ended DictionaryRefused (refused_ended ends) none)
    no_form SavedRefused ends none = absurd (none_ended SavedRefused (saved_ended ends) none)

    -- ---- a name that isn't there

    gone_ended : (status : Status) → EndsAs status → (name : List ℕ) → Fetches given.words name → given.contents name ≡ missing → ⊥
    gone_ended status (inl ends) name asked none = gone_run name asked none ends.0.origin ends.0.content ends.0.asked ends.0.gave
    gone_ended status (inr ends) name asked none = gone_check name asked none ends.0

    gone_part : LinePart given did → (name : List ℕ) → Fetches given.words name → given.contents name ≡ missing → ⊥
    gone_part (inl part) name asked none = none_fetched given.words name part.0 asked
    gone_part (inr (inl part)) name asked none = gone_run name asked none part.0.origin part.0.content part.0.asked part.0.gave
    gone_part (inr (inr (inl part))) name asked none = gone_check name asked none part.0
    gone_part (inr (inr (inr (inl part)))) name asked none = gone_over name asked none part.0.over
    gone_part (inr (inr (inr (inr part)))) name asked none = gone_over name asked none part.0.over

    gone : (status : Status) → Ends given did status → (name : List ℕ) → Fetches given.words name → given.contents name ≡ missing → IsOneOf status (FetchFault ∷ NoMemory ∷ [])
    gone Done ends name asked none = absurd (gone_ended Done (done_ended ends) name asked none)
    gone Usage ends name asked none = absurd (none_fetched given.words name ends.0 asked)
    gone FetchFault ends name asked none = inl refl
    gone ReadFault ends name asked none = absurd (gone_over name asked none ends.0.over)
    gone WriteFault (inl ends) name asked none = absurd (gone_over name asked none ends.0.over)
    gone WriteFault (inr (rose, part)) name asked none = absurd (gone_part part name asked none)
    gone ScriptTooLong ends name asked none = absurd (gone_ended ScriptTooLong (too_long_ended ends) name asked none)
    gone NoMemory ends name asked none = inr (inl refl)
    gone DictionaryRefused ends name asked none = absurd (gone_ended DictionaryRefused (refused_ended ends) name asked none)
    gone SavedRefused ends name asked none = absurd (gone_ended SavedRefused (saved_ended ends) name asked none)

    -- ---- a saved text that isn't there

    module _ (dict : KnownDictionary given) (name : List ℕ) (from : IsFrom dict.asked.beginning name) (none : given.contents name ≡ missing) where
      no_text : (over : AcceptedRun given) (basis : Basis) → MayBring given.contents over.asked.beginning basis → ⊥
      no_text over basis brought = text_gone dict name from none over basis brought

      text_gone_part : LinePart given did → ⊥
      text_gone_part (inl part) = part.0.0 dict.origin dict.asked
      text_gone_part (inr (inl part)) = not_faulty dict part.0
      text_gone_part (inr (inr (inl part))) = not_both given.words dict.origin part.0.name dict.asked part.0.asked
      text_gone_part (inr (inr (inr (inl part)))) = no_text part.0.over part.0.basis part.0.brought
      text_gone_part (inr (inr (inr (inr part)))) = no_text part.0.over part.0.basis part.0.brought

      saved_missing : (status : Status) → Ends given did status → IsOneOf status (FetchFault ∷ NoMemory ∷ [])
      saved_missing Done (inl ends) = absurd (no_text ends.0.over ends.0.basis ends.0.brought)
      saved_missing Done (inr ends) = absurd (not_both given.words dict.origin ends.0.name dict.asked ends.0.asked)
      saved_missing DictionaryRefused (inl ends) = absurd (not_faulty dict ends.0)
      saved_missing DictionaryRefused (inr ends) = absurd (not_both given.words dict.origin ends.0.name dict.asked ends.0.asked)
      saved_missing Usage ends = absurd (ends.0.0 dict.origin dict.asked)
      saved_missing FetchFault ends = inl refl
      saved_missing ReadFault ends = absurd (no_text ends.0.over ends.0.basis ends.0.brought)
      saved_missing WriteFault (inl ends) = absurd (no_text ends.0.over ends.0.basis ends.0.brought)
      saved_missing WriteFault (inr (rose, part)) = absurd (text_gone_part part)
      saved_missing ScriptTooLong ends = absurd (no_text ends.0.over ends.0.basis ends.0.brought)
      saved_missing NoMemory ends = inr (inl refl)
      saved_missing SavedRefused ends = absurd (no_text ends.0.over ends.0.basis ends.0.brought)

    -- ---- a saved text that is refused

    module _ (dict : KnownDictionary given) (known : Basis) (n : ℕ) (brings : Brings given.contents dict.asked.beginning known) (is : IsRefusedStart dict.rules known n) where
      saved_refused : (status : Status) → Ends given did status → EndedAs did status (defined_saved_refused n) ⊎ IsOneOf status (FetchFault ∷ WriteFault ∷ NoMemory ∷ [])
      saved_refused Done (inl ends) = absurd (not_begun dict known n brings is ends.0)
      saved_refused Done (inr ends) = absurd (not_both given.words dict.origin ends.0.name dict.asked ends.0.asked)
      saved_refused DictionaryRefused (inl ends) = absurd (not_faulty dict ends.0)
      saved_refused DictionaryRefused (inr ends) = absurd (not_both given.words dict.origin ends.0.name dict.asked ends.0.asked)
      saved_refused Usage ends = absurd (ends.0.0 dict.origin dict.asked)
      saved_refused FetchFault ends = inr (inl refl)
      saved_refused ReadFault ends = absurd (not_begun dict known n brings is ends.0)
      saved_refused WriteFault ends = inr (inr (inl refl))
      saved_refused ScriptTooLong ends = absurd (not_begun dict known n brings is ends.0)
      saved_refused NoMemory ends = inr (inr (inr (inl refl)))
      saved_refused SavedRefused ends = inl (refl, subst (λ m. SentWhole did.script.output (defined_saved_refused m).text) (at_line dict known n brings is ends.0) ends.1)

      unread_part : LinePart given did → Unread did
      unread_part (inl part) = part.2
      unread_part (inr (inl part)) = part.2
      unread_part (inr (inr (inl part))) = part.2
      unread_part (inr (inr (inr (inl part)))) = part.2
      unread_part (inr (inr (inr (inr part)))) = part.2

      saved_refused_unread : (status : Status) → Ends given did status → Unread did
      saved_refused_unread Done (inl ends) = absurd (not_begun dict known n brings is ends.0)
      saved_refused_unread Done (inr ends) = ends.3
      saved_refused_unread DictionaryRefused (inl ends) = ends.2
      saved_refused_unread DictionaryRefused (inr ends) = ends.3
      saved_refused_unread Usage ends = ends.2
      saved_refused_unread FetchFault ends = ends.3
      saved_refused_unread ReadFault ends = absurd (not_begun dict known n brings is ends.0)
      saved_refused_unread WriteFault (inl ends) = absurd (not_begun dict known n brings is ends.0)
      saved_refused_unread WriteFault (inr (rose, part)) = unread_part part
      saved_refused_unread ScriptTooLong ends = absurd (not_begun dict known n brings is ends.0)
      saved_refused_unread NoMemory (inl ends) = ends.1
      saved_refused_unread NoMemory (inr ends) = absurd (not_begun dict known n brings is ends.0)
      saved_refused_unread SavedRefused ends = ends.2

    -- ---- runs

    ran : (status : Status) → EndsAs status → (o : Origin) → IsRun given.words o → RunEndsAs status
    ran status (inl ends) o asked = ends
    ran status (inr ends) o asked = absurd (not_both given.words o ends.0.name asked ends.0.asked)

    ended : (status : Status) → RunEndsAs status → (k : KnownRun given) → EndedByRun given k did status
    ended status ends k = (ends.0.outcome, known_run k ends.0, (sym ends.1, ends.2))

    -- no run over a dictionary with a fault is one over an accepted dictionary
    module _ (o : Origin) (content : Content) (fault : DictFault) (asked : IsRun given.words o) (gives : Gives given.contents o content) (is : HasFault given.checks content fault) where
      not_accepted : AcceptedRun given → ⊥
      not_accepted over =
          let same = content_is o content asked gives over.origin over.content over.asked over.gave in
          accepted_is_faultless given.checks over.content over.rules fault over.is_accepted (subst (λ c. HasFault given.checks c fault) (sym same) is)

      -- a dictionary with a fault comes to its line
      fault_ended : RefusedEnds given did → EndedAs did DictionaryRefused (defined_fault fault)
      fault_ended ends =
          let run = ends.0 in
          let same = content_is o content asked gives run.origin run.content run.asked run.gave in
          let one = one_first_fault given.checks content run.fault fault (subst (λ c. HasFault given.checks c run.fault) same run.is_fault) is in
          (refl, subst (λ f. SentWhole did.script.output (defined_fault f).text) one ends.1)

      refused : (status : Status) → Ends given did status → EndedAs did status (defined_fault fault) ⊎ IsOneOf status (FetchFault ∷ WriteFault ∷ NoMemory ∷ [])
      refused Done (inl ends) = absurd (not_accepted ends.0.over)
      refused Done (inr ends) = absurd (not_both given.words o ends.0.name asked ends.0.asked)
      refused Usage ends = absurd (ends.0.0 o asked)
      refused FetchFault ends = inr (inl refl)
      refused ReadFault ends = absurd (not_accepted ends.0.over)
      refused WriteFault ends = inr (inr (inl refl))
      refused ScriptTooLong ends = absurd (not_accepted ends.0.over)
      refused NoMemory ends = inr (inr (inr (inl refl)))
      refused DictionaryRefused (inl ends) = inl (fault_ended ends)
      refused DictionaryRefused (inr ends) = absurd (not_both given.words o ends.0.name asked ends.0.asked)
      refused SavedRefused ends = absurd (not_accepted ends.0.over)

      refused_part : LinePart given did → Unread did
      refused_part (inl part) = part.2
      refused_part (inr (inl part)) = part.2
      refused_part (inr (inr (inl part))) = part.2
      refused_part (inr (inr (inr (inl part)))) = part.2
      refused_part (inr (inr (inr (inr part)))) = part.2

      refused_unread : (status : Status) → Ends given did status → Unread did
      refused_unread Done (inl ends) = absurd (not_accepted ends.0.over)
      refused_unread Done (inr ends) = ends.3
      refused_unread DictionaryRefused (inl ends) = ends.2
      refused_unread DictionaryRefused (inr ends) = ends.3
      refused_unread Usage ends = ends.2
      refused_unread FetchFault ends = ends.3
      refused_unread ReadFault ends = absurd (not_accepted ends.0.over)
      refused_unread WriteFault (inl ends) = absurd (not_accepted ends.0.over)
      refused_unread WriteFault (inr (rose, part)) = refused_part part
      refused_unread ScriptTooLong ends = absurd (not_accepted ends.0.over)
      refused_unread NoMemory (inl ends) = ends.1
      refused_unread NoMemory (inr ends) = absurd (not_accepted ends.0.over)
      refused_unread SavedRefused ends = ends.2

    exact : (status : Status) → Ends given did status → (k : KnownRun given) → EndedByRun given k did status ⊎ IsOneOf status (FetchFault ∷ ReadFault ∷ WriteFault ∷ NoMemory ∷ [])
    exact Done ends k = inl (ended Done (ran Done (done_ended ends) k.origin k.asked) k)
    exact Usage ends k = absurd (ends.0.0 k.origin k.asked)
    exact FetchFault ends k = inr (inl refl)
    exact ReadFault ends k = inr (inr (inl refl))
    exact WriteFault ends k = inr (inr (inr (inl refl)))
    exact ScriptTooLong ends k = inl (ended ScriptTooLong (ran ScriptTooLong (too_long_ended ends) k.origin k.asked) k)
    exact NoMemory ends k = inr (inr (inr (inr (inl refl))))
    exact DictionaryRefused ends k = inl (ended DictionaryRefused (ran DictionaryRefused (refused_ended ends) k.origin k.asked) k)
    exact SavedRefused ends k = inl (ended SavedRefused (ran SavedRefused (saved_ended ends) k.origin k.asked) k)

    complete : (status : Status) → Ends given did status → (k : KnownRun given) → (FetchFailed given did → ⊥) → (SourceFailed did.script.input → ⊥) → (SinkFailed did.script.output → ⊥)
        → EndedByRun given k did status ⊎ (status ≡ NoMemory)
    complete Done ends k fetch read write = inl (ended Done (ran Done (done_ended ends) k.origin k.asked) k)
    complete FetchFault ends k fetch read write = absurd (fetch (ends.0, ends.1))
    complete ReadFault (run, (taken, (front, ends))) k fetch read write = absurd (read ends.0)
    complete WriteFault (inl (run, (taken, (front, ends)))) k fetch read write = absurd (write ends.0)
    complete WriteFault (inr ends) k fetch read write = absurd (write ends.0)
    complete NoMemory ends k fetch read write = inr refl
    complete Usage ends k fetch read write = absurd (ends.0.0 k.origin k.asked)
    complete ScriptTooLong ends k fetch read write = inl (ended ScriptTooLong (ran ScriptTooLong (too_long_ended ends) k.origin k.asked) k)
    complete DictionaryRefused ends k fetch read write = inl (ended DictionaryRefused (ran DictionaryRefused (refused_ended ends) k.origin k.asked) k)
    complete SavedRefused ends k fetch read write = inl (ended SavedRefused (ran SavedRefused (saved_ended ends) k.origin k.asked) k)

    -- ---- what was written of a run that is known

    -- all of a text is a part of it
    whole_part : (text whole : List ℕ) → text ≡ whole → SentWhole did.script.output text → SentPart did.script.output whole
    whole_part text whole same wrote = part_of did.script.output text [] whole (sym same ∙ sym (append-nil text)) wrote

    -- and a part of its front
    front_part : (front more : List ℕ) → SentPart did.script.output front → SentPart did.script.output (front ++ more)
    front_part front more (rest, sent) = (rest ++ more, record { front = sent.front; took = sent.took; split = ap (λ l. l ++ more) sent.split ∙ append_assoc sent.front rest more })

    run_part : (k : KnownRun given) (d : Defined) → ComesTo given k d → (run : Run) → SentPart did.script.output run.outcome.text → SentPart did.script.output d.text
    run_part k d runs run part = subst (λ (e : Defined). SentPart did.script.output e.text) (one_run k.content given.checks k.basis k.asked.mode given.relations k.script run.outcome d (known_run k run) runs) part

    ended_part : (status : Status) → EndsAs status → (k : KnownRun given) (d : Defined) → ComesTo given k d → SentPart did.script.output d.text
    ended_part status ends k d runs = let run = ran status ends k.origin k.asked in run_part k d runs run.0 (whole_part run.0.outcome.text run.0.outcome.text refl run.2)

    -- the front of a script that begins so, and a part of the replies
    replies_part : (k : KnownRun given) (d : Defined) → ComesTo given k d → (run : BegunRun given) (taken : Option (List ℕ)) → Appends did.script.output.before.taken taken (joined run.start.front)
        → (script : List ℕ) → MayBe did.script.input.before.left script → SentPart (taken_from did.script.output taken) (defined_script (meaning_in given run) script).text → SentPart did.script.output d.text
    replies_part k d runs run taken front script read part =
        run_part k d runs (begun_run run script read) (part_behind did.script.output taken (joined run.start.front) (defined_script (meaning_in given run) script).text front part)

    line_part : LinePart given did → (k : KnownRun given) (d : Defined) → ComesTo given k d → SentPart did.script.output d.text
    line_part (inl part) k d runs = absurd (part.0.0 k.origin k.asked)
    line_part (inr (inl part)) k d runs = run_part k d runs (refused_run part.0) part.1
    line_part (inr (inr (inl part))) k d runs = absurd (not_both given.words k.origin part.0.name k.asked part.0.asked)
    line_part (inr (inr (inr (inl part)))) k d runs = run_part k d runs (saved_refused_run part.0) part.1
    line_part (inr (inr (inr (inr part)))) k d runs =
        let some = may_go_on did.script.input.before.left did.script.input.before.left [] (consumes_none did.script.input.before.left) in
        let run = part.0 in
        run_part k d runs (begun_run run some.0 some.1) (front_part (joined run.start.front) (defined_script (meaning_in given run) some.0).text part.1)

    -- the replies to the first lines
    part_by_first : (run : BegunRun given) (script : List ℕ) (lines others : List ScriptLine) → answered_lines script ≡ lines ++ others → (output : BeforeAfter Output) → SentWhole output (texts (meaning_in given run) lines)
        → SentPart output (defined_script (meaning_in given run) script).text
    part_by_first run script lines others answers output wrote =
        let begins = meaning_begins run.over.rules run.over.asked.mode given.relations run.start.answers in
        let rest = begins.goes_on lines in
        part_by_lines (meaning_in given run) script lines others rest.0 rest.1 answers output wrote

    prefix : (status : Status) → Ends given did status → (k : KnownRun given) (d : Defined) → ComesTo given k d → SentPart did.script.output d.text
    prefix Done ends k d runs = ended_part Done (done_ended ends) k d runs
    prefix Usage ends k d runs = absurd (ends.0.0 k.origin k.asked)
    prefix FetchFault ends k d runs = nothing_part did.script.output d.text ends.2
    prefix ReadFault (run, (taken, (front, ends))) k d runs =
        let read = ends.1 in
        let more = may_go_on did.script.input.before.left did.script.input.after.left read.bytes read.read in
        let answers = ended_are_answered read.bytes more.0 read.within in
        replies_part k d runs run taken front (read.bytes ++ more.0) more.1
        (part_by_first run (read.bytes ++ more.0) (ended_lines read.bytes) answers.0 answers.1 (taken_from did.script.output taken) read.replied)
    prefix WriteFault (inl (run, (taken, (front, ends)))) k d runs = replies_part k d runs run taken front ends.1.0 ends.1.1 ends.1.2
    prefix WriteFault (inr (rose, part)) k d runs = line_part part k d runs
    prefix ScriptTooLong ends k d runs = ended_part ScriptTooLong (too_long_ended ends) k d runs
    prefix NoMemory (inl ends) k d runs = nothing_part did.script.output d.text ends.0
    prefix NoMemory (inr (run, (taken, (front, first)))) k d runs =
        let lines = answered_lines first.script in
        replies_part k d runs run taken front first.script first.read
        (part_by_first run first.script (take first.count lines) (drop first.count lines) (sym (take-append-drop first.count lines)) (taken_from did.script.output taken) first.replied)
    prefix DictionaryRefused ends k d runs = ended_part DictionaryRefused (refused_ended ends) k d runs
    prefix SavedRefused ends k d runs = ended_part SavedRefused (saved_ended ends) k d runs

    -- ---- how far a script was read

    read_through : (status : Status) → Ends given did status → (k : KnownRun given) → status ≡ Done
        → (r : Rules) × (s : Start) × IsAcceptedAs given.checks k.content r × IsStart r k.basis s × ReadThrough (meaning_of r k.asked.mode given.relations s.answers) did.script
    read_through Done (inl (run, (taken, (front, ends)))) k is =
        let over = run.over in
        let content = content_is k.origin k.content k.asked k.gives over.origin over.content over.asked over.gave in
        let basis = basis_is k.origin k.asked k.basis k.brings over.origin over.asked run.basis run.brought in
        let mode = same_mode given.words over.origin k.origin over.asked k.asked in (
          over.rules,
          run.start,
          subst (λ c. IsAcceptedAs given.checks c over.rules) content over.is_accepted,
          subst (λ b. IsStart over.rules b run.start) basis run.is_start,
          subst (λ e. ReadThrough (meaning_of over.rules e given.relations run.start.answers) did.script) mode (read_behind (meaning_in given run) did.script taken ends.1),
        )
    read_through Done (inr ends) k is = absurd (not_both given.words k.origin ends.0.name k.asked ends.0.asked)
    read_through status ends k is = absurd cc

    -- ---- dictionaries that the program brings with it

    brought_fault : (b : BuiltIn) → IsRun given.words (program b) → RefusedRun given → ⊥
    brought_fault b asked run = brought_is_faultless given.contents given.checks b run.content run.fault (subst (λ q. MayGive given.contents q run.content) (same_origin given.words run.origin (program b) run.asked asked) run.gave) run.is_fault

    -- no saved text is named
    module _ (b : BuiltIn) (asked : IsRun given.words (program b)) (none : asked.beginning ≡ unanswered) where
      no_beginning : (over : AcceptedRun given) → over.asked.beginning ≡ unanswered
      no_beginning over = same_beginning given.words over.origin (program b) over.asked asked ∙ none

      nothing_fetched : (name : List ℕ) → IsFetched given name → ⊥
      nothing_fetched name (inl fetched) = brought_unfetched given.words b name asked fetched
      nothing_fetched name (inr (over, from)) = from_none over.asked.beginning name (no_beginning over) from

      built_in : (status : Status) → Ends given did status → IsOneOf status (Done ∷ ReadFault ∷ WriteFault ∷ ScriptTooLong ∷ NoMemory ∷ [])
      built_in Done ends = inl refl
      built_in ReadFault ends = inr (inl refl)
      built_in WriteFault ends = inr (inr (inl refl))
      built_in ScriptTooLong ends = inr (inr (inr (inl refl)))
      built_in NoMemory ends = inr (inr (inr (inr (inl refl))))
      built_in Usage ends = absurd (ends.0.0 (program b) asked)
      built_in FetchFault ends = absurd (nothing_fetched did.files.after.failed_name ends.1)
      built_in DictionaryRefused (inl ends) = absurd (brought_fault b asked ends.0)
      built_in DictionaryRefused (inr ends) = absurd (not_both given.words (program b) ends.0.name asked ends.0.asked)
      built_in SavedRefused ends = absurd (none_refused given.contents ends.0.over.asked.beginning ends.0.basis ends.0.over.rules ends.0.line (no_beginning ends.0.over) ends.0.brought ends.0.is_refused)

    built_in_carried : (b : BuiltIn) (asked : IsRun given.words (program b)) (status : Status) → Ends given did status → IsOneOf status (Done ∷ FetchFault ∷ ReadFault ∷ WriteFault ∷ ScriptTooLong ∷ NoMemory ∷ SavedRefused ∷ [])
    built_in_carried b asked Done ends = inl refl
    built_in_carried b asked FetchFault ends = inr (inl refl)
    built_in_carried b asked ReadFault ends = inr (inr (inl refl))
    built_in_carried b asked WriteFault ends = inr (inr (inr (inl refl)))
    built_in_carried b asked ScriptTooLong ends = inr (inr (inr (inr (inl refl))))
    built_in_carried b asked NoMemory ends = inr (inr (inr (inr (inr (inl refl)))))
    built_in_carried b asked SavedRefused ends = inr (inr (inr (inr (inr (inr (inl refl))))))
    built_in_carried b asked Usage ends = absurd (ends.0.0 (program b) asked)
    built_in_carried b asked DictionaryRefused (inl ends) = absurd (brought_fault b asked ends.0)
    built_in_carried b asked DictionaryRefused (inr ends) = absurd (not_both given.words (program b) ends.0.name asked ends.0.asked)

    pub tables : (b : BuiltIn) → IsRun given.words (program b) → (run : BegunRun given) (lines : List ScriptLine) → TablesHoldIn b run.over.rules ((meaning_in given run).answers lines)
    tables b asked run lines =
        let over = run.over in
        let gave = subst (λ q. MayGive given.contents q over.content) (same_origin given.words over.origin (program b) over.asked asked) over.gave in
        subst (λ e. TablesHoldIn b over.rules ((meaning_of over.rules e given.relations run.start.answers).answers lines)) (sym (program_mode given.words over.origin b asked over.asked))
        (tables_hold b over.rules ((meaning_of over.rules Incremental given.relations run.start.answers).answers lines)
        (brought_is_this given.contents given.checks b over.content over.rules gave over.is_accepted)
        (lines_lead_to_fit over.rules (rules_are_accepted_so given.checks over.content over.rules over.is_accepted) (record { answers = run.start.answers; stamps = true; relations = given.relations }) (fits_at_start over.rules run.basis run.start run.is_start) lines))

    -- ---- checks

    part_unread : LinePart given did → Unread did
    part_unread (inl part) = part.2
    part_unread (inr (inl part)) = part.2
    part_unread (inr (inr (inl part))) = part.2
    part_unread (inr (inr (inr (inl part)))) = part.2
    part_unread (inr (inr (inr (inr part)))) = part.2

    check_unread : (status : Status) → Ends given did status → (name : List ℕ) → IsCheck given.words name → Unread did
    check_unread Done (inl ends) name asked = absurd (not_both given.words ends.0.over.origin name ends.0.over.asked asked)
    check_unread Done (inr ends) name asked = ends.3
    check_unread DictionaryRefused (inl ends) name asked = ends.2
    check_unread DictionaryRefused (inr ends) name asked = ends.3
    check_unread Usage ends name asked = ends.2
    check_unread FetchFault ends name asked = ends.3
    check_unread ReadFault ends name asked = absurd (not_both given.words ends.0.over.origin name ends.0.over.asked asked)
    check_unread WriteFault (inl ends) name asked = absurd (not_both given.words ends.0.over.origin name ends.0.over.asked asked)
    check_unread WriteFault (inr (rose, part)) name asked = part_unread part
    check_unread ScriptTooLong ends name asked = absurd (not_both given.words ends.0.over.origin name ends.0.over.asked asked)
    check_unread SavedRefused ends name asked = ends.2
    check_unread NoMemory (inl ends) name asked = ends.1
    check_unread NoMemory (inr ends) name asked = absurd (not_both given.words ends.0.over.origin name ends.0.over.asked asked)

    check_ended : (status : Status) → EndsAs status → (k : KnownCheck given) → EndedByCheck given did status k.bytes
    check_ended status (inl ends) k = absurd (not_both given.words ends.0.origin k.name ends.0.asked k.asked)
    check_ended status (inr ends) k = (ends.0.outcome, known_check k ends.0, (sym ends.1, ends.2))

    check_exact : (status : Status) → Ends given did status → (k : KnownCheck given) → EndedByCheck given did status k.bytes ⊎ IsOneOf status (FetchFault ∷ WriteFault ∷ NoMemory ∷ [])
    check_exact Done ends k = inl (check_ended Done (done_ended ends) k)
    check_exact Usage ends k = absurd (ends.0.1 k.name k.asked)
    check_exact FetchFault ends k = inr (inl refl)
    check_exact ReadFault ends k = absurd (not_both given.words ends.0.over.origin k.name ends.0.over.asked k.asked)
    check_exact WriteFault ends k = inr (inr (inl refl))
    check_exact ScriptTooLong ends k = inl (check_ended ScriptTooLong (too_long_ended ends) k)
    check_exact NoMemory ends k = inr (inr (inr (inl refl)))
    check_exact SavedRefused ends k = inl (check_ended SavedRefused (saved_ended ends) k)
    check_exact DictionaryRefused ends k = inl (check_ended DictionaryRefused (refused_ended ends) k)

    check_complete : (status : Status) → Ends given did status → (k : KnownCheck given) → (FetchFailed given did → ⊥) → (SinkFailed did.script.output → ⊥) → EndedByCheck given did status k.bytes ⊎ (status ≡ NoMemory)
    check_complete Done ends k fetch write = inl (check_ended Done (done_ended ends) k)
    check_complete Usage ends k fetch write = absurd (ends.0.1 k.name k.asked)
    check_complete FetchFault ends k fetch write = absurd (fetch (ends.0, ends.1))
    check_complete ReadFault ends k fetch write = absurd (not_both given.words ends.0.over.origin k.name ends.0.over.asked k.asked)
    check_complete WriteFault (inl ends) k fetch write = absurd (write ends.1.1.1.0)
    check_complete WriteFault (inr ends) k fetch write = absurd (write ends.0)
    check_complete ScriptTooLong ends k fetch write = inl (check_ended ScriptTooLong (too_long_ended ends) k)
    check_complete NoMemory ends k fetch write = inr refl
    check_complete SavedRefused ends k fetch write = inl (check_ended SavedRefused (saved_ended ends) k)
    check_complete DictionaryRefused ends k fetch write = inl (check_ended DictionaryRefused (refused_ended ends) k)

    check_part : (k : KnownCheck given) (d : Defined) → ChecksTo k.bytes given.checks d → (e : Defined) → ChecksTo k.bytes given.checks e → SentPart did.script.output e.text → SentPart did.script.output d.text
    check_part k d comes e other part = subst (λ (f : Defined). SentPart did.script.output f.text) (one_end k.bytes given.checks e d other comes) part

    check_ended_part : (status : Status) → EndsAs status → (k : KnownCheck given) (d : Defined) → ChecksTo k.bytes given.checks d → SentPart did.script.output d.text
    check_ended_part status ends k d comes = let by = check_ended status ends k in check_part k d comes by.0 by.1 (whole_part by.0.text by.0.text refl by.2.1)

    check_prefix : (status : Status) → Ends given did status → (k : KnownCheck given) (d : Defined) → ChecksTo k.bytes given.checks d → SentPart did.script.output d.text
    check_prefix Done ends k d comes = check_ended_part Done (done_ended ends) k d comes
    check_prefix Usage ends k d comes = absurd (ends.0.1 k.name k.asked)
    check_prefix FetchFault ends k d comes = nothing_part did.script.output d.text ends.2
    check_prefix ReadFault ends k d comes = absurd (not_both given.words ends.0.over.origin k.name ends.0.over.asked k.asked)
    check_prefix WriteFault (inl ends) k d comes = absurd (not_both given.words ends.0.over.origin k.name ends.0.over.asked k.asked)
    check_prefix WriteFault (inr (rose, inl part)) k d comes = absurd (part.0.1 k.name k.asked)
    check_prefix WriteFault (inr (rose, inr (inl part))) k d comes = absurd (not_both given.words part.0.origin k.name part.0.asked k.asked)
    check_prefix WriteFault (inr (rose, inr (inr (inl part)))) k d comes = check_part k d comes part.0.outcome (known_check k part.0) part.1
    check_prefix WriteFault (inr (rose, inr (inr (inr (inl part))))) k d comes = absurd (not_both given.words part.0.over.origin k.name part.0.over.asked k.asked)
    check_prefix WriteFault (inr (rose, inr (inr (inr (inr part))))) k d comes = absurd (not_both given.words part.0.over.origin k.name part.0.over.asked k.asked)
    check_prefix ScriptTooLong ends k d comes = check_ended_part ScriptTooLong (too_long_ended ends) k d comes
    check_prefix NoMemory (inl ends) k d comes = nothing_part did.script.output d.text ends.0
    check_prefix NoMemory (inr ends) k d comes = absurd (not_both given.words ends.0.over.origin k.name ends.0.over.asked k.asked)
    check_prefix SavedRefused ends k d comes = check_ended_part SavedRefused (saved_ended ends) k d comes
    check_prefix DictionaryRefused ends k d comes = check_ended_part DictionaryRefused (refused_ended ends) k d comes

    -- the fault that a dictionary has is the one that is named
    fault_named : (status : Status) (bytes : List ℕ) (fault : DictFault) → IsFault bytes (names_of given.checks) fault → EndedByCheck given did status bytes → EndedAs did status (defined_fault fault)
    fault_named status bytes fault is ended_by = subst (EndedAs did status) (one_end bytes given.checks ended_by.0 (defined_fault fault) ended_by.1 (inr (fault, is, refl))) ended_by.2

    check_refused : (status : Status) → Ends given did status → (k : KnownCheck given) (fault : DictFault) → IsFault k.bytes (names_of given.checks) fault → EndedAs did status (defined_fault fault) ⊎ IsOneOf status (FetchFault ∷ WriteFault ∷ NoMemory ∷ [])
    check_refused status ends k fault is =
        elim (check_exact status ends k) as (λ _. EndedAs did status (defined_fault fault) ⊎ IsOneOf status (FetchFault ∷ WriteFault ∷ NoMemory ∷ [])) [
          | inl ended_by ↦ inl (fault_named status k.bytes fault is ended_by)
          | inr fails ↦ inr fails
        ]

    pub finals : (run : BegunRun given) (lines : List ScriptLine) → AreFinalsKept run.over.rules run.over.asked.mode given.relations run.start.answers lines
    finals run lines =
        let over = run.over in
        let accepted = rules_are_accepted given.checks over.content over.rules over.is_accepted in
        finals_are_kept accepted.0 over.rules accepted.1 over.asked.mode given.relations run.start.answers lines

    pub final_figures : (b : BuiltIn) → IsRun given.words (program b) → (run : BegunRun given) (lines : List ScriptLine) → FinalsAreFigures b run.over.rules run.over.asked.mode given.relations run.start.answers lines
    final_figures b asked run lines =
        let over = run.over in
        let accepted = rules_are_accepted given.checks over.content over.rules over.is_accepted in
        let gave = subst (λ q. MayGive given.contents q over.content) (same_origin given.words over.origin (program b) over.asked asked) over.gave in
        finals_are_figures b over.rules (brought_is_this given.contents given.checks b over.content over.rules gave over.is_accepted) accepted.0 accepted.1 over.asked.mode given.relations run.start.answers lines

    pub interviewed : (status : Status) → Ends given did status → GenInterviewed given did status → SaveInterviewed given did status → Interviewed given did status
    interviewed status ends gen saving = record {
      ends = inl ends;
      no_form = no_form status ends;
      missing = gone status ends;
      refused = λ o content fault asked gives is. refused o content fault asked gives is status ends;
      refused_unread = λ o content fault asked gives is. refused_unread o content fault asked gives is status ends;
      saved_missing = λ dict name from none. saved_missing dict name from none status ends;
      saved_refused = λ dict basis n brings is. saved_refused dict basis n brings is status ends;
      saved_refused_unread = λ dict basis n brings is. saved_refused_unread dict basis n brings is status ends;
      built_in = λ b asked none. built_in b asked none status ends;
      built_in_carried = λ b asked. built_in_carried b asked status ends;
      exact = exact status ends;
      complete = complete status ends;
      prefix = prefix status ends;
      read_through = read_through status ends;
      finals = finals;
      tables = tables;
      final_figures = final_figures;
      check_unread = check_unread status ends;
      check_refused = check_refused status ends;
      check_exact = check_exact status ends;
      check_prefix = check_prefix status ends;
      check_complete = check_complete status ends;
      gen = gen;
      saving = saving;
    }
