-- What is reported to C of a desk.
use Rattle.std.specs.Prelude.{◌≡◌, ◌⊎◌, ℕ, List, [], length, Option, Some}
use Rattle.fact_graph_c.specs.DeskAnswers.{AnswersDesk, desk_said}
use Rattle.fact_graph_c.specs.DeskSaying.{DeskSays}
use Rattle.fact_graph_c.specs.Faults.{fault_numbers, plain}
use Rattle.fact_graph_c.specs.Outcomes.{outcome_number}
use Rattle.fact_graph_c.specs.declared.desk_engine.DeskEngine.{DeskEngine}
use Rattle.fact_graph_c.specs.declared.desk_slot.DeskSlot.{DeskSlot}
use Rattle.fact_graph_c.specs.declared.fault.Fault.{Fault}
use Rattle.fact_graph_c.specs.declared.fault.NotBegun.{NotBegun}
use Rattle.fact_graph_c.specs.declared.outcome.Outcome.{Outcome}

-- the place holds such a desk, and there is no fault; or it is as before, and the fault has these numbers
abbrev pub BeginsDeskCall : (DeskEngine → Type 0) → (NotBegun → Type 0) → DeskSlot → DeskSlot → Fault → Type 0
BeginsDeskCall Begins IsWhy place place_now fault =
    ((e : DeskEngine) × Begins e × (place_now.value ≡ Some e) × (fault ≡ plain 0)) ⊎ ((why : NotBegun) × IsWhy why × (place_now ≡ place) × (fault ≡ fault_numbers why))

-- the line was answered so, by the same rules, and the desk behind it is handed back
pub record AnswersDeskCall (old : DeskEngine) (line : List ℕ) (text_size : ℕ) (handed_back : Option DeskEngine) (result : ℕ) : Type 0 where
  pub new : DeskEngine
  pub outcome : Outcome
  pub answered : AnswersDesk old new line outcome
  pub dict : new.desk.session.dict ≡ old.desk.session.dict
  pub back : handed_back ≡ Some new
  pub number : result ≡ outcome_number outcome
  pub size : text_size ≡ length (desk_said new)

-- such a text was said, and the desk behind it is handed back
pub record DeskSaysCall (IsText : List ℕ → Type 0) (old : DeskEngine) (text_size : ℕ) (handed_back : Option DeskEngine) (result : ℕ) : Type 0 where
  pub new : DeskEngine
  pub outcome : Outcome
  pub says : DeskSays IsText old new outcome
  pub back : handed_back ≡ Some new
  pub number : result ≡ outcome_number outcome
  pub size : text_size ≡ length (desk_said new)

-- nothing is said any more, and all else is as before
pub record TrimsDeskText (old : DeskEngine) (handed_back : Option DeskEngine) : Type 0 where
  pub new : DeskEngine
  pub back : handed_back ≡ Some new
  pub desk : new.desk ≡ old.desk
  pub over : new.over ≡ old.over
  pub text : desk_said new ≡ []
