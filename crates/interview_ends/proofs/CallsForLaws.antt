-- The calls for a dictionary, a saved text and a script: what is known of them by how their caller ended.
use Rattle.std.proofs.Common.{◌≡◌, ◌≢◌, ◌⊎◌, ◌∙◌, ℕ, List, Result, Ok, Err, IfErr, inl, inr, ap, subst, sym}
use Rattle.std.specs.Prelude.{IsErrOf}
use Rattle.fg_io.specs.Outside.{ByPull, Contents, Output}
use Rattle.answers.specs.Answered.{Answered}
use Rattle.answers.specs.Meaning.{answered}
use Rattle.dict_tree.specs.DictParsing.{max_bytes}
use Rattle.dictionary.specs.AcceptedParts.{Named}
use Rattle.graph_session.specs.Rules.{Rules, tree_of}
use Rattle.saved_text.specs.SavedText.{saved_lines}
use Rattle.interview_ends.specs.Beginnings.{saved_limit}
use Rattle.interview_ends.specs.CallsFor.{ByStillFetch, CallsForDictionary, CallsForNone, CallsForSaved, CallsInVain, CallsOnce, PutsSaved, SilentExchange, ExchangeFrom}
use Rattle.interview_ends.specs.declared.fetching.Fetched.{Fetched}
use Rattle.interview_ends.specs.declared.resuming.Ready.{Ready}
use Rattle.interview_ends.specs.declared.resuming.Resumed.{Resumed}
use Rattle.interview_ends.specs.declared.resuming.Resumed.TheVariants as resumed
use Rattle.script_runs.specs.declared.status.Status.{Status}
use Rattle.script_runs.specs.declared.status.Status.TheVariants.{Done, FetchFault, NoMemory, ReadFault}
use Rattle.script_runs.specs.declared.mode.Mode.{Mode}
use Rattle.script_runs.specs.DefinedScript.{answered_lines}
use Rattle.interview_ends.specs.LastLines.{PutAtEnd, PutLinesAtEnd}
use Rattle.script_runs.specs.Meanings.{Meaning, meaning_of, silently}
use Rattle.interview_ends.specs.Save.{ScriptSaves}
use Rattle.script_runs.specs.ScriptEnds.{EndsBefore, ScriptDid, ScriptEnds, did_behind}
use Rattle.interview_ends.specs.StepEnds.{Gives, ResumedAs, StartEnds}
use Rattle.script_runs.specs.Exchange.{MayBegin, Exchange, bytes_of}
use Rattle.interview_ends.specs.Origins.{Beginning, Origin, by_carry, by_load, file, program, unanswered}

-- ---- what ended by a fetch that failed

-- the caller ended so exactly where what it called did
module _ {H : Type 0} (fetched : ByStillFetch H) (ended ends : Type 0) (on : ended → ends) (back : ends → ended) (shelf shelf_now : H) where
  pub once_as : (name : List ℕ) (at_most : ℕ) → CallsOnce fetched name at_most ended shelf shelf_now → CallsOnce fetched name at_most ends shelf shelf_now
  once_as name at_most (answer, called, tells) = (answer, called, (λ e. tells.0 (back e), λ failed. on (tells.1 failed)))

  pub dictionary_as : (origin : Origin) → CallsForDictionary fetched origin ended shelf shelf_now → CallsForDictionary fetched origin ends shelf shelf_now
  dictionary_as (file name) called = once_as name max_bytes called
  dictionary_as (program b) (still, never) = (still, λ e. never (back e))

  pub none_as : (checks : List Named) (origin : Origin) → CallsForNone fetched checks origin ended shelf shelf_now → CallsForNone fetched checks origin ends shelf shelf_now
  none_as checks (file name) (answer, called, none, tells) = (answer, called, none, (λ e. tells.0 (back e), λ failed. on (tells.1 failed)))
  none_as checks (program b) none = absurd none

  pub saved_as : (beginning : Beginning) → CallsForSaved fetched beginning ended shelf shelf_now → CallsForSaved fetched beginning ends shelf shelf_now
  saved_as unanswered (still, never) = (still, λ e. never (back e))
  saved_as (by_load name) called = once_as name saved_limit called
  saved_as (by_carry name) called = once_as name saved_limit called

-- what was had is no error, and an error is handed on
pub no_error : {A : Type 0} (found : A) (fault : Status) → IsErrOf (Ok found) fault → ⊥
no_error found fault is = cc

pub same_error : {A B : Type 0} (status fault : Status) → IsErrOf {T = A} (Err status) fault → IsErrOf {T = B} (Err status) fault
same_error status fault is = ap Err cc

pub error_is : {A : Type 0} (status fault : Status) → IsErrOf {T = A} (Err status) fault → status ≡ fault
error_is status fault is = cc

pub as_error : {A : Type 0} (status fault : Status) → status ≡ fault → IsErrOf {T = A} (Err status) fault
as_error status fault is = ap Err is

pub never_failed : (result : Result Resumed Status) → IfErr result (λ status. status ≡ NoMemory) → IsErrOf result FetchFault → ⊥
never_failed (Ok found) wanting is = cc
never_failed (Err status) wanting is = cc

-- a text that ends an interview ends it by no fetch, and so does a script
pub never_by_text : (sink sink_now : Output) (text : List ℕ) (whole status : Status) → whole ≢ FetchFault → PutAtEnd sink sink_now text whole status → status ≢ FetchFault
never_by_text sink sink_now text whole status never (inl (is, all)) = λ failed. never (sym is ∙ failed)
never_by_text sink sink_now text whole status never (inr (is, part)) = λ failed. cc

pub never_by_start : (m : Meaning) (front : List ℕ) (did : ScriptDid) (status : Status) → StartEnds m front did status → status ≢ FetchFault
never_by_start m front did status (inl (taken, (appended, ended))) = λ failed. subst (ScriptEnds m (did_behind did taken)) failed ended
never_by_start m front did status (inr ended) = λ failed. subst (EndsBefore front did) failed ended

pub never_by_save : (r : Rules) (m : Meaning) (did : ScriptDid) (status : Status) → ScriptSaves r m did status → status ≢ FetchFault
never_by_save r m did status saves = λ failed. subst (ScriptSaves r m did) failed saves

-- ---- a dictionary that wasn't had

pub in_vain : {H : Type 0} (fetched : ByStillFetch H) (checks : List Named) (origin : Origin) (status : Status) (shelf shelf_now : H)
    → CallsForNone fetched checks origin (status ≡ FetchFault) shelf shelf_now ⊎ (status ≡ NoMemory) → CallsForDictionary fetched origin (IsErrOf {T = Fetched} (Err status) FetchFault) shelf shelf_now
    → CallsInVain fetched checks origin status shelf shelf_now
in_vain fetched checks origin status shelf shelf_now (inl none) called = inl none
in_vain fetched checks origin status shelf shelf_now (inr wanting) called =
    inr (wanting, dictionary_as fetched (IsErrOf {T = Fetched} (Err status) FetchFault) (status ≡ FetchFault) (error_is status FetchFault) (as_error status FetchFault) shelf shelf_now origin called)

-- ---- a script

module _ {S K : Type 0} (pulled : ByPull S K) (output : K → Output) (out out_now : K) (script script_now : S) where
  pub none_failed : {A B C : Type 0} → A ⊎ ((Done ≡ ReadFault) × B) → A ⊎ C
  none_failed (inl all) = inl all
  none_failed (inr (wrong, call)) = absurd cc

  -- one that was done had no pull that failed, whatever came behind it
  abbrev pub exchange_done : (m : Meaning) → Exchange pulled output m out script script_now Done → (status : Status) → Exchange pulled output m out script script_now status
  exchange_done m exchange status = record {
    pieces = exchange.pieces;
    between = exchange.between;
    came = exchange.came;
    last = none_failed exchange.last;
  }

  -- behind it the answers were saved that it left
  module _ (r k : Rules) (m : Meaning) (answers : Answered) (ran : K) (same_sink : ran ≡ out) (same_rules : k ≡ r)
      (exchange : Exchange pulled output (silently m) out script script_now Done) (left : m.answers (answered_lines (bytes_of exchange.pieces)) ≡ answers) where
    abbrev lines_now : List (List ℕ)
    lines_now = saved_lines (tree_of k) answers

    abbrev lines_due : List (List ℕ)
    lines_due = saved_lines (tree_of r) (m.answers (answered_lines (bytes_of exchange.pieces)))

    same_lines : lines_now ≡ lines_due
    same_lines = ap (λ (q : Rules). saved_lines (tree_of q) answers) same_rules ∙ ap (saved_lines (tree_of r)) (sym left)

    puts_by : (status : Status) → PutLinesAtEnd (output out) (output out_now) lines_due Done status → PutsSaved output r m (bytes_of exchange.pieces) status out out_now
    puts_by status (inl (is, wrote)) = subst (λ (s : Status). PutsSaved output r m (bytes_of exchange.pieces) s out out_now) (sym is) wrote
    puts_by status (inr (is, part)) = subst (λ (s : Status). PutsSaved output r m (bytes_of exchange.pieces) s out out_now) (sym is) part

    pub saved_behind : (status : Status) → PutLinesAtEnd (output ran) (output out_now) lines_now Done status → SilentExchange pulled output r m out out_now script script_now status
    saved_behind status ended = record {
      exchange = exchange_done (silently m) exchange status;
      puts = puts_by status (subst (λ (ls : List (List ℕ)). PutLinesAtEnd (output out) (output out_now) ls Done status) same_lines (subst (λ (o : K). PutLinesAtEnd (output o) (output out_now) lines_now Done status) same_sink ended));
    }

  module _ (contents : List ℕ → Contents) (beginning : Beginning) (r : Rules) (mode : Mode) (relations : List Named) (status : Status) where
    -- behind the answers that a run begins with
    pub exchange_from : (ready : Ready) → ResumedAs contents beginning r (resumed.Begins ready)
        → ((front : List (List ℕ)) → Gives ready.dropped front → MayBegin pulled output (meaning_of r mode relations (answered ready.answers)) front out out_now script script_now status)
        → ExchangeFrom pulled output contents beginning r mode relations status script script_now out out_now
    exchange_from ready (basis, brought, (s, is, begun)) exchanges =
        inr (basis, brought, (s, is, subst (λ (a : Answered). MayBegin pulled output (meaning_of r mode relations a) s.front out out_now script script_now status) begun.answers (exchanges s.front begun.front)))

    -- by what the shelf told before
    pub exchange_same : (before : List ℕ → Contents) → contents ≡ before → ExchangeFrom pulled output contents beginning r mode relations status script script_now out out_now
        → ExchangeFrom pulled output before beginning r mode relations status script script_now out out_now
    exchange_same before same exchanges = subst (λ (t : List ℕ → Contents). ExchangeFrom pulled output t beginning r mode relations status script script_now out out_now) same exchanges
