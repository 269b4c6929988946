-- What is reported to C.
use Rattle.std.specs.Prelude.{◌≡◌, ◌⊎◌, ℕ, List, [], length, Option, Some}
use Rattle.graph_session.specs.SessionView.{bounded_to}
use Rattle.fact_graph_c.specs.Answering.{Answers, said}
use Rattle.fact_graph_c.specs.Faults.{fault_numbers, plain}
use Rattle.fact_graph_c.specs.Outcomes.{outcome_number}
use Rattle.fact_graph_c.specs.Saying.{Says}
use Rattle.fact_graph_c.specs.declared.engine.Engine.{Engine}
use Rattle.fact_graph_c.specs.declared.fault.Fault.{Fault}
use Rattle.fact_graph_c.specs.declared.fault.NotBegun.{NotBegun}
use Rattle.fact_graph_c.specs.declared.outcome.Outcome.{Outcome}
use Rattle.fact_graph_c.specs.declared.session_slot.SessionSlot.{SessionSlot}

-- the place holds such a session, and there is no fault; or it is as before, and the fault has these numbers
abbrev pub BeginsCall : (Engine → Type 0) → (NotBegun → Type 0) → SessionSlot → SessionSlot → Fault → Type 0
BeginsCall Begins IsWhy place place_now fault =
    ((e : Engine) × Begins e × (place_now.value ≡ Some e) × (fault ≡ plain 0)) ⊎ ((why : NotBegun) × IsWhy why × (place_now ≡ place) × (fault ≡ fault_numbers why))

-- the line was answered so, by the same rules, and the session behind it is handed back
pub record AnswersCall (old : Engine) (line : List ℕ) (text_size : ℕ) (handed_back : Option Engine) (result : ℕ) : Type 0 where
  pub new : Engine
  pub outcome : Outcome
  pub answered : Answers old new line outcome
  pub dict : new.session.dict ≡ old.session.dict
  pub back : handed_back ≡ Some new
  pub number : result ≡ outcome_number outcome
  pub size : text_size ≡ length (said new)

-- such a text was said, and the session behind it is handed back
pub record SaysCall (IsText : List ℕ → Type 0) (old : Engine) (text_size : ℕ) (handed_back : Option Engine) (result : ℕ) : Type 0 where
  pub new : Engine
  pub outcome : Outcome
  pub says : Says IsText old new outcome
  pub back : handed_back ≡ Some new
  pub number : result ≡ outcome_number outcome
  pub size : text_size ≡ length (said new)

-- the newest changes can be undone, so many at most, and all else is as before
pub record KeepsChanges (old : Engine) (most : ℕ) (handed_back : Option Engine) : Type 0 where
  pub new : Engine
  pub back : handed_back ≡ Some new
  pub session : new.session ≡ bounded_to most old.session
  pub watches : new.watches ≡ old.watches
  pub over : new.over ≡ old.over
  pub text : said new ≡ said old

-- nothing is said any more, and all else is as before
pub record TrimsText (old : Engine) (handed_back : Option Engine) : Type 0 where
  pub new : Engine
  pub back : handed_back ≡ Some new
  pub session : new.session ≡ old.session
  pub watches : new.watches ≡ old.watches
  pub over : new.over ≡ old.over
  pub text : said new ≡ []

-- all is as before
pub record HandsBack (old : Engine) (handed_back : Option Engine) : Type 0 where
  pub new : Engine
  pub back : handed_back ≡ Some new
  pub session : new.session ≡ old.session
  pub watches : new.watches ≡ old.watches
  pub over : new.over ≡ old.over
  pub text : said new ≡ said old
