-- The calls that an interview makes, for each form of the words. What a shelf says of a fetch is `fetched`: it leads from the shelf before
-- to the shelf after only by a call of this name and limit with this answer, where source and sink stood so; and a source says the same
-- of a pull. So where devices came to others by these calls, they were called so, in this order, and for nothing else.
use Rattle.std.specs.Prelude.{◌≡◌, ◌≢◌, ℕ, List}
use Rattle.fg_io.specs.Outside.{ByFetch, ByPull, Output}
use Rattle.interview_ends.specs.Given.{Given}
use Rattle.interview_ends.specs.LastLines.{PutsOneLine}
use Rattle.interview.specs.Words.{HasNoForm, IsCheck, IsGen, IsRun, IsSave}
use Rattle.interview_ends.specs.Origins.{Origin, file}
use Rattle.script_runs.specs.declared.status.Status.{Status}
use Rattle.script_runs.specs.declared.status.Status.TheVariants.{FetchFault as FailedFetch}
use Rattle.interview_ends.specs.CallsFor.{beside, CallsForDictionary, CallsForRun, CallsForSave, PutsSummary}

-- how these words, with this status, led from the one shelf, source and sink to the others
pub record Calls {H S K : Type 0} (fetched : ByFetch H S K) (pulled : ByPull S K) (output : K → Output) (given : Given) (status : Status) (shelf shelf_now : H) (script script_now : S) (out out_now : K) : Type 0 where
  -- a run calls for its dictionary, and over an accepted one for its saved text and its script
  pub run : (origin : Origin) (asked : IsRun given.words origin) → CallsForRun fetched pulled output given origin asked.beginning asked.mode status shelf shelf_now script script_now out out_now
  -- a check calls for its dictionary, and puts one line
  pub check : (name : List ℕ) → IsCheck given.words name → CallsForDictionary (beside fetched script out) (file name) (status ≡ FailedFetch) shelf shelf_now × (script_now ≡ script) × PutsOneLine (output out) (output out_now) status
  -- a save calls for its dictionary, and over an accepted one for its script
  pub save : (origin : Origin) → IsSave given.words origin → CallsForSave fetched pulled output given origin status shelf shelf_now script script_now out out_now
  -- `gen` calls for nothing, and puts its summary
  pub gen : (n : ℕ) → IsGen given.words n → (shelf_now ≡ shelf) × (script_now ≡ script) × PutsSummary output given.relations n status out out_now
  -- words without a form call for nothing, one line is put, and they don't end by a fetch
  pub no_form : HasNoForm given.words → (shelf_now ≡ shelf) × (script_now ≡ script) × PutsOneLine (output out) (output out_now) status × (status ≢ FailedFetch)
