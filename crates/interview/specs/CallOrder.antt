-- What follows from the calls that an interview makes, device by device: which were made, in which order, and that none stands behind one
-- that failed. Words have one of the forms, as the contract of `form_of` says.
use Rattle.std.specs.Prelude.{◌≡◌, ◌≢◌, ◌⊎◌, ℕ, List, [], ◌∷◌, ◌++◌, map, IsErrOf}
use Rattle.fg_io.specs.Outside.{ByFetch, ByPull, Follows, Output, Pulled, Put, faulted, gave, put_failed}
use Rattle.fg_io.specs.Puts.{PutAll, PutPart}
use Rattle.fg_io.specs.declared.error.FetchFault.TheVariants.{Failed}
use Rattle.built_in.specs.declared.built_in.BuiltIn.{BuiltIn}
use Rattle.dict_tree.specs.DictParsing.{max_bytes}
use Rattle.script_lines.specs.Lines.{ScriptLine}
use Rattle.graph_session.specs.Rules.{Rules, tree_of}
use Rattle.saved_text.specs.SavedText.{saved_lines}
use Rattle.session_lines.specs.Writing.{pieces_of}
use Rattle.interview_ends.specs.Beginnings.{Basis, IsStart, MayBring, Start, saved_limit}
use Rattle.interview_ends.specs.CallsFor.{Answer, ByStillFetch, IsDictionary, beside}
use Rattle.interview.specs.Calls.{Calls}
use Rattle.interview_ends.specs.Given.{Given}
use Rattle.interview_ends.specs.Load.{IsOfLoad, gen_lines}
use Rattle.script_runs.specs.Meanings.{Meaning, meaning_of}
use Rattle.interview_ends.specs.Save.{save_meaning}
use Rattle.script_runs.specs.Exchange.{IsToGoOn, Exchange}
use Rattle.interview_ends.specs.Origins.{Beginning, Origin, beginning_of, file, program, unanswered}
use Rattle.interview.specs.Words.{HasNoForm, IsCheck, IsForm, IsFrom, IsGen, IsRun, IsSave}
use Rattle.script_runs.specs.declared.status.Status.{Status}
use Rattle.script_runs.specs.declared.status.Status.TheVariants.{FetchFault as FailedFetch}
use Rattle.interview.specs.declared.words.Form.{Form}
use Rattle.interview.specs.declared.words.Form.TheVariants.{Check, Gen, Run, Save, Unknown}
use Rattle.script_runs.specs.declared.mode.Mode.{Mode}

-- ---- the calls of a device

-- one fetch: the name, the most bytes, and the answer
pub record Fetch : Type 0 where
  pub name : List ℕ
  pub at_most : ℕ
  pub answer : Answer

-- by these fetches, in this order, the one shelf came to the other, and by no other call; source and sink stood as at the start
abbrev pub CameByFetches : {H : Type 0} → ByStillFetch H → List Fetch → H → H → Type 0
CameByFetches fetched [] shelf shelf_now = shelf_now ≡ shelf
CameByFetches {H} fetched (call ∷ calls) shelf shelf_now = (between : H) × fetched shelf call.name call.at_most call.answer between × CameByFetches fetched calls between shelf_now

-- one pull: how the sink stood, the most bytes, and what it came to
pub record Pull (K : Type 0) : Type 0 where
  pub sink : K
  pub at_most : ℕ
  pub came : Pulled

-- by these pulls, of which the newest stands first, the one source came to the other, and by no other call
abbrev pub CameByPulls : {S K : Type 0} → ByPull S K → List (Pull K) → S → S → Type 0
CameByPulls pulled [] script script_now = script_now ≡ script
CameByPulls {S} pulled (call ∷ earlier) script script_now = (between : S) × CameByPulls pulled earlier script between × pulled between call.sink call.at_most call.came script_now

abbrev pub came_of : {K : Type 0} → List (Pull K) → List Pulled
came_of {K} calls = map (λ (call : Pull K). call.came) calls

-- ---- what is fetched

-- the fetch of NAME, the dictionary of a run, of a check or of a save
abbrev pub IsOfDictionary : List (List ℕ) → Fetch → Type 0
IsOfDictionary words call = (IsRun words (file call.name) ⊎ (IsCheck words call.name ⊎ IsSave words (file call.name))) × (call.at_most ≡ max_bytes)

-- the fetch of SAVED, for a run over the dictionary from there
abbrev pub IsOfSaved : List (List ℕ) → Origin → Fetch → Type 0
IsOfSaved words origin call = ((asked : IsRun words origin) × IsFrom asked.beginning call.name) × (call.at_most ≡ saved_limit)

-- No fetch but that of NAME, and behind it, where an accepted dictionary came of it, that of SAVED. Over a dictionary of the program's
-- own SAVED alone.
abbrev pub AreDue : Given → List Fetch → Type 0
AreDue given [] = Unit {0}
AreDue given (one ∷ []) = IsOfDictionary given.words one ⊎ ((b : BuiltIn) × IsOfSaved given.words (program b) one)
AreDue given (first ∷ second ∷ []) = IsOfDictionary given.words first × IsDictionary given.checks first.answer × IsOfSaved given.words (file first.name) second
AreDue given (first ∷ second ∷ third ∷ more) = ⊥

-- such fetches were made, and no other
pub record FetchedInOrder {H : Type 0} (fetched : ByStillFetch H) (given : Given) (shelf shelf_now : H) : Type 0 where
  pub fetches : List Fetch
  pub came : CameByFetches fetched fetches shelf shelf_now
  pub due : AreDue given fetches

-- nothing is fetched but NAME, and then SAVED over an accepted dictionary
abbrev pub NameThenSaved : {H S K : Type 0} → ByFetch H S K → ByPull S K → (K → Output) → Type 0
NameThenSaved {H} {S} {K} fetched pulled output =
    (given : Given) (status : Status) (shelf shelf_now : H) (script script_now : S) (out out_now : K) → Calls fetched pulled output given status shelf shelf_now script script_now out out_now
    → (form : Form) → IsForm given.words form → FetchedInOrder (beside fetched script out) given shelf shelf_now

-- the words are of a run or of a save over a dictionary of the program's own, without a saved text, or of `gen`, or have no form
abbrev pub NameNoFile : List (List ℕ) → Type 0
NameNoFile words =
    ((b : BuiltIn) × ((asked : IsRun words (program b)) × (asked.beginning ≡ unanswered)))
    ⊎ (((b : BuiltIn) × IsSave words (program b)) ⊎ (((n : ℕ) × IsGen words n) ⊎ HasNoForm words))

-- for them nothing is fetched: the shelf is as it was, and they don't end by a fetch
abbrev pub NothingIsFetched : {H S K : Type 0} → ByFetch H S K → ByPull S K → (K → Output) → Type 0
NothingIsFetched {H} {S} {K} fetched pulled output =
    (given : Given) (status : Status) (shelf shelf_now : H) (script script_now : S) (out out_now : K) → Calls fetched pulled output given status shelf shelf_now script script_now out out_now
    → NameNoFile given.words → (shelf_now ≡ shelf) × (status ≢ FailedFetch)

-- ---- what is put

abbrev pub IsOneLine : List (List ℕ) → Type 0
IsOneLine lines = (line : List ℕ) × (lines ≡ line ∷ [])

-- over some rules, and with a start that it may have been given, the lines that carrying drops, and then the replies to lines of a script
abbrev pub AreOfRun : Given → Mode → Beginning → List (List ℕ) → Type 0
AreOfRun given mode beginning lines =
    (r : Rules) × (basis : Basis) × (s : Start) × (script : List ScriptLine) × MayBring given.contents beginning basis × IsStart r basis s
    × (lines ≡ s.front ++ (meaning_of r mode given.relations s.answers).replies script)

-- over some rules, the lines of the saved text of the answers that lines of a script leave
abbrev pub AreOfSave : Given → List (List ℕ) → Type 0
AreOfSave given lines = (r : Rules) × (script : List ScriptLine) × (lines ≡ saved_lines (tree_of r) ((save_meaning r given.relations).answers script))

-- the lines of output that words of this form may come to
abbrev pub AreOutput : Given → Form → List (List ℕ) → Type 0
AreOutput given (Run mode origin beginning) lines = IsOneLine lines ⊎ AreOfRun given mode (beginning_of beginning) lines
AreOutput given (Check name) lines = IsOneLine lines
AreOutput given (Gen n) lines = (r : Rules) × IsOfLoad n r × (lines ≡ gen_lines r given.relations n)
AreOutput given (Save origin) lines = IsOneLine lines ⊎ AreOfSave given lines
AreOutput given Unknown lines = IsOneLine lines

-- each of the first of these lines was put whole, in order, with its newline as one piece, or each as far as the first put that failed
abbrev pub PutEach : Output → Output → List (List ℕ) → Type 0
PutEach sink sink_now lines =
    ((first : List (List ℕ)) × ((rest : List (List ℕ)) × ((lines ≡ first ++ rest) × PutAll sink sink_now (pieces_of first))))
    ⊎ PutPart sink sink_now (pieces_of lines)

-- nothing is put, or each line of output as one piece, and nothing else
abbrev pub EachLineIsOnePiece : {H S K : Type 0} → ByFetch H S K → ByPull S K → (K → Output) → Type 0
EachLineIsOnePiece {H} {S} {K} fetched pulled output =
    (given : Given) (status : Status) (shelf shelf_now : H) (script script_now : S) (out out_now : K) → Calls fetched pulled output given status shelf shelf_now script script_now out out_now
    → (form : Form) → IsForm given.words form → (output out_now ≡ output out) ⊎ ((lines : List (List ℕ)) × AreOutput given form lines × PutEach (output out) (output out_now) lines)

-- ---- what is pulled

-- A pull behind these, where the sink stands so: each of them gave a piece, and behind these pieces the script was to go on. None was the
-- end, no `quit` ended in them, and the replies to all lines that ended in them were put whole, and nothing else.
pub record FollowsReplies {K : Type 0} (output : K → Output) (m : Meaning) (out : K) (earlier : List (Pull K)) (sink : K) : Type 0 where
  pub pieces : List (List ℕ)
  pub gave_each : came_of earlier ≡ map gave pieces
  pub goes_on : IsToGoOn output m out pieces sink

-- each of these pulls stands so behind those before it
abbrev pub EachFollowsReplies : {K : Type 0} → (K → Output) → Meaning → K → List (Pull K) → Type 0
EachFollowsReplies {K} output m out calls = (later earlier : List (Pull K)) (call : Pull K) → calls ≡ later ++ (call ∷ earlier) → FollowsReplies output m out earlier call.sink

-- such pulls were made, and no other
pub record PulledInOrder {S K : Type 0} (pulled : ByPull S K) (output : K → Output) (m : Meaning) (out : K) (script script_now : S) : Type 0 where
  pub pulls : List (Pull K)
  pub came : CameByPulls pulled pulls script script_now
  pub each : EachFollowsReplies output m out pulls

-- In an exchange the reply to each line is put whole before more of the script is pulled, also where that pull fails, and nothing is pulled
-- behind the end, or behind the piece in which `quit` ended. Before the first reply the sink stood so.
abbrev pub PullsFollowReplies : {S K : Type 0} → ByPull S K → (K → Output) → Type 0
PullsFollowReplies {S} {K} pulled output =
    (m : Meaning) (out : K) (script script_now : S) (status : Status) → Exchange pulled output m out script script_now status → PulledInOrder pulled output m out script script_now

-- ---- a device that failed

-- the fetches, the pulls and the puts that were made: of those of each device none stands behind one that failed
pub record NoneBehindFailed {H S K : Type 0} (fetched : ByStillFetch H) (pulled : ByPull S K) (output : K → Output) (status : Status) (shelf shelf_now : H) (script script_now : S) (out out_now : K) : Type 0 where
  pub fetches : List Fetch
  pub fetches_made : CameByFetches fetched fetches shelf shelf_now
  pub last_fetch : (before behind : List Fetch) (call : Fetch) → fetches ≡ before ++ (call ∷ behind) → IsErrOf call.answer Failed → behind ≡ []
  pub pulls : List (Pull K)
  pub pulls_made : CameByPulls pulled pulls script script_now
  pub last_pull : (later earlier : List (Pull K)) (call : Pull K) → pulls ≡ later ++ (call ∷ earlier) → call.came ≡ faulted → later ≡ []
  pub puts : List Put
  pub puts_made : Follows (output out) (output out_now) puts
  pub last_put : (before behind : List Put) (piece : List ℕ) → puts ≡ before ++ (put_failed piece ∷ behind) → behind ≡ []
  -- where a fetch failed nothing was pulled, and nothing was put
  pub fetch_ends : status ≡ FailedFetch → (script_now ≡ script) × (output out_now ≡ output out)

-- a device that failed isn't called again
abbrev pub NoCallBehindAFailedOne : {H S K : Type 0} → ByFetch H S K → ByPull S K → (K → Output) → Type 0
NoCallBehindAFailedOne {H} {S} {K} fetched pulled output =
    (given : Given) (status : Status) (shelf shelf_now : H) (script script_now : S) (out out_now : K) → Calls fetched pulled output given status shelf shelf_now script script_now out out_now
    → (form : Form) → IsForm given.words form → NoneBehindFailed (beside fetched script out) pulled output status shelf shelf_now script script_now out out_now
