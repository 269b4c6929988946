-- The calls that an interview makes for a dictionary, a saved text and a script, and by which puts its lines go out.
use Rattle.std.specs.Prelude.{◌≡◌, ◌≢◌, ◌⊎◌, ◌↔◌, ℕ, List, Result, Ok, Err, Vec, IsErrOf}
use Rattle.std.specs.declared.alloc.Global.{Global}
use Rattle.fg_io.specs.Outside.{ByFetch, ByPull, Contents, Output}
use Rattle.fg_io.specs.declared.error.FetchFault.{FetchFault}
use Rattle.fg_io.specs.declared.error.FetchFault.TheVariants.{Failed}
use Rattle.dict_tree.specs.DictParsing.{max_bytes}
use Rattle.dict_meaning.specs.Accepted.{Accepted}
use Rattle.dictionary.specs.AcceptedParts.{Named, names_of}
use Rattle.dictionary.specs.Faults.{AreAccepted}
use Rattle.graph_session.specs.Rules.{Rules, tree_of}
use Rattle.saved_text.specs.SavedText.{saved_lines}
use Rattle.session_lines.specs.Writing.{WroteLines, WroteSome}
use Rattle.interview_ends.specs.Beginnings.{Basis, IsStart, MayBring, Start, saved_limit}
use Rattle.interview_ends.specs.Dictionaries.{IsAcceptedAs, brought, spelled}
use Rattle.interview_ends.specs.Given.{Given}
use Rattle.script_runs.specs.DefinedScript.{answered_lines}
use Rattle.interview_ends.specs.LastLines.{PutsOneLine}
use Rattle.interview_ends.specs.Load.{IsOfLoad, gen_lines}
use Rattle.script_runs.specs.Meanings.{Meaning, meaning_of, silently}
use Rattle.interview_ends.specs.Save.{save_meaning}
use Rattle.script_runs.specs.Exchange.{MayBegin, Exchange, bytes_of}
use Rattle.interview_ends.specs.Origins.{Beginning, Origin, by_carry, by_load, file, program, unanswered}
use Rattle.script_runs.specs.declared.status.Status.{Status}
use Rattle.script_runs.specs.declared.status.Status.TheVariants.{Done, FetchFault as FailedFetch, NoMemory, WriteFault}
use Rattle.script_runs.specs.declared.mode.Mode.{Mode}

-- ---- one fetch

abbrev pub Answer : Type 0
Answer = Result (Vec ℕ Global) FetchFault

-- what a shelf says of a fetch, where source and sink stand still
abbrev pub ByStillFetch : Type 0 → Type 1
ByStillFetch H = H → List ℕ → ℕ → Answer → H → Type 0

abbrev pub beside : {H S K : Type 0} → ByFetch H S K → S → K → ByStillFetch H
beside fetched script out shelf name at_most answer shelf_now = fetched shelf script out name at_most answer shelf_now

-- It was called once: for this name, with at most so many bytes. Its caller ended with the status of a failed fetch exactly where it
-- answered that it failed.
abbrev pub CallsOnce : {H : Type 0} → ByStillFetch H → List ℕ → ℕ → Type 0 → H → H → Type 0
CallsOnce fetched name at_most ended shelf shelf_now = (answer : Answer) × fetched shelf name at_most answer shelf_now × (ended ↔ IsErrOf answer Failed)

-- ---- for a dictionary

-- of a file it was called once, and of what the program brings it wasn't called, and then its caller didn't end so
abbrev pub CallsForDictionary : {H : Type 0} → ByStillFetch H → Origin → Type 0 → H → H → Type 0
CallsForDictionary fetched (file name) ended shelf shelf_now = CallsOnce fetched name max_bytes ended shelf shelf_now
CallsForDictionary fetched (program b) ended shelf shelf_now = (shelf_now ≡ shelf) × (ended → ⊥)

-- what was answered are the bytes of an accepted dictionary, with these checks
abbrev pub IsDictionary : List Named → Answer → Type 0
IsDictionary checks (Ok v) = (dict : Accepted) × AreAccepted v.items (names_of checks) dict
IsDictionary checks (Err fault) = ⊥

-- it was called so, and a dictionary came of it that is accepted as this
abbrev pub CallsForAccepted : {H : Type 0} → ByStillFetch H → List Named → Origin → Rules → H → H → Type 0
CallsForAccepted fetched checks (file name) r shelf shelf_now = (bytes : Vec ℕ Global) × fetched shelf name max_bytes (Ok bytes) shelf_now × IsAcceptedAs checks (spelled bytes.items) r
CallsForAccepted fetched checks (program b) r shelf shelf_now = (shelf_now ≡ shelf) × IsAcceptedAs checks (brought b) r

-- or none came
abbrev pub CallsForNone : {H : Type 0} → ByStillFetch H → List Named → Origin → Type 0 → H → H → Type 0
CallsForNone fetched checks (file name) ended shelf shelf_now =
    (answer : Answer) × fetched shelf name max_bytes answer shelf_now × (IsDictionary checks answer → ⊥) × (ended ↔ IsErrOf answer Failed)
CallsForNone fetched checks (program b) ended shelf shelf_now = ⊥

-- it was called so, and nothing came of it: no dictionary, or memory was wanting
abbrev pub CallsInVain : {H : Type 0} → ByStillFetch H → List Named → Origin → Status → H → H → Type 0
CallsInVain fetched checks origin status shelf shelf_now =
    CallsForNone fetched checks origin (status ≡ FailedFetch) shelf shelf_now
    ⊎ ((status ≡ NoMemory) × CallsForDictionary fetched origin (status ≡ FailedFetch) shelf shelf_now)

-- ---- for a saved text

-- it was called once, and where none is named it wasn't called, and then its caller didn't end so
abbrev pub CallsForSaved : {H : Type 0} → ByStillFetch H → Beginning → Type 0 → H → H → Type 0
CallsForSaved fetched unanswered ended shelf shelf_now = (shelf_now ≡ shelf) × (ended → ⊥)
CallsForSaved fetched (by_load name) ended shelf shelf_now = CallsOnce fetched name saved_limit ended shelf shelf_now
CallsForSaved fetched (by_carry name) ended shelf shelf_now = CallsOnce fetched name saved_limit ended shelf shelf_now

-- ---- for a script

-- It wasn't pulled, and one line was put, or nothing; or with a start that it may have been given, over these rules, the lines before the
-- replies were put, and then it was pulled as in an exchange that begins so, or the put of one of these lines was the last.
abbrev pub ExchangeFrom : {S K : Type 0} → ByPull S K → (K → Output) → (List ℕ → Contents) → Beginning → Rules → Mode → List Named → Status → S → S → K → K → Type 0
ExchangeFrom pulled output contents beginning r mode relations status script script_now out out_now =
    ((script_now ≡ script) × PutsOneLine (output out) (output out_now) status)
    ⊎ ((basis : Basis) × MayBring contents beginning basis × ((s : Start) × IsStart r basis s
    × MayBegin pulled output (meaning_of r mode relations s.answers) s.front out out_now script script_now status))

-- ---- for a run

-- It was called for the dictionary, and then, where an accepted one came of it, for the saved text; and then the script was pulled as this
-- dictionary means it. Behind the dictionary memory may have been wanting.
abbrev pub CallsForRun : {H S K : Type 0} → ByFetch H S K → ByPull S K → (K → Output) → Given → Origin → Beginning → Mode → Status → H → H → S → S → K → K → Type 0
CallsForRun {H} fetched pulled output given origin beginning mode status shelf shelf_now script script_now out out_now =
    ((r : Rules) × (between : H) × CallsForAccepted (beside fetched script out) given.checks origin r shelf between
    × CallsForSaved (beside fetched script out) beginning (status ≡ FailedFetch) between shelf_now
    × ExchangeFrom pulled output given.contents beginning r mode given.relations status script script_now out out_now)
    ⊎ (CallsInVain (beside fetched script out) given.checks origin status shelf shelf_now × (script_now ≡ script) × PutsOneLine (output out) (output out_now) status)

-- ---- for a save

-- What was put in all of a script of which these bytes came, by the status: behind one that is done, the lines of the saved text of the
-- answers that stand then, each whole as one piece, or as far as a put that failed; and else nothing.
abbrev pub PutsSaved : {K : Type 0} → (K → Output) → Rules → Meaning → List ℕ → Status → K → K → Type 0
PutsSaved output r m bytes Done out out_now = WroteLines (output out) (output out_now) (saved_lines (tree_of r) (m.answers (answered_lines bytes)))
PutsSaved output r m bytes WriteFault out out_now = WroteSome (output out) (output out_now) (saved_lines (tree_of r) (m.answers (answered_lines bytes)))
PutsSaved output r m bytes other out out_now = out_now ≡ out

-- these are all pulls, and all puts: no reply, and behind the script what is saved
pub record SilentExchange {S K : Type 0} (pulled : ByPull S K) (output : K → Output) (r : Rules) (m : Meaning) (out out_now : K) (script script_now : S) (status : Status) : Type 0 where
  pub exchange : Exchange pulled output (silently m) out script script_now status
  pub puts : PutsSaved output r m (bytes_of exchange.pieces) status out out_now

-- or the script wasn't pulled, and nothing was put
abbrev pub MaySave : {S K : Type 0} → ByPull S K → (K → Output) → Rules → Meaning → K → K → S → S → Status → Type 0
MaySave pulled output r m out out_now script script_now status =
    ((script_now ≡ script) × (out_now ≡ out)) ⊎ SilentExchange pulled output r m out out_now script script_now status

-- It was called for the dictionary, and then, where an accepted one came of it, the script was pulled as this dictionary means it, without
-- a reply, and behind it the answers were saved; over that one it didn't end by a fetch.
abbrev pub CallsForSave : {H S K : Type 0} → ByFetch H S K → ByPull S K → (K → Output) → Given → Origin → Status → H → H → S → S → K → K → Type 0
CallsForSave fetched pulled output given origin status shelf shelf_now script script_now out out_now =
    ((r : Rules) × CallsForAccepted (beside fetched script out) given.checks origin r shelf shelf_now
    × MaySave pulled output r (save_meaning r given.relations) out out_now script script_now status × (status ≢ FailedFetch))
    ⊎ (CallsInVain (beside fetched script out) given.checks origin status shelf shelf_now × (script_now ≡ script) × PutsOneLine (output out) (output out_now) status)

-- ---- for a load

-- What was put, by the status: the lines of the summary, each whole as one piece, or as far as a put that failed, and for want of memory
-- nothing.
abbrev pub PutsSummary : {K : Type 0} → (K → Output) → List Named → ℕ → Status → K → K → Type 0
PutsSummary output relations n Done out out_now = (r : Rules) × IsOfLoad n r × WroteLines (output out) (output out_now) (gen_lines r relations n)
PutsSummary output relations n WriteFault out out_now = (r : Rules) × IsOfLoad n r × WroteSome (output out) (output out_now) (gen_lines r relations n)
PutsSummary output relations n NoMemory out out_now = out_now ≡ out
PutsSummary output relations n other out out_now = ⊥
