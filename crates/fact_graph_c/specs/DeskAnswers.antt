-- What a host's line is answered at a desk, and what it leaves.
use Rattle.std.specs.Prelude.{◌≡◌, ℕ, Bool, true, false, List, []}
use Rattle.script_lines.specs.Joined.{joined}
use Rattle.graph_session.specs.Rules.{Rules}
use Rattle.shared_desk.specs.Desk.{Desk}
use Rattle.shared_desk.specs.DeskView.{StandsFor, rules_of}
use Rattle.desk_lines.specs.DeskStepping.{DeskState, DeskStep, desk_line_step}
use Rattle.fact_graph_c.specs.Answering.{line_given}
use Rattle.fact_graph_c.specs.declared.desk_engine.DeskEngine.{DeskEngine}
use Rattle.fact_graph_c.specs.declared.outcome.Outcome.{Outcome}
use Rattle.fact_graph_c.specs.declared.outcome.Outcome.TheVariants.{Said, Over, NoMemory}

-- ---- what an engine stands for

abbrev pub desk_rules : DeskEngine → Rules
desk_rules e = rules_of e.desk

abbrev pub desk_said : DeskEngine → List ℕ
desk_said e = e.text.bytes.items

-- where its script stands, as a desk that it stands for
abbrev pub desk_state_of : DeskEngine → Desk → DeskState
desk_state_of e d = record { desk = d; over = e.over }

-- ---- a line

-- the step of the line from there
abbrev pub desk_step_of : DeskEngine → Desk → List ℕ → DeskStep
desk_step_of e d line = desk_line_step (desk_rules e) (desk_state_of e d) (line_given line)

-- From any desk that it stood for the step of the line was taken: the text is said, each line with the mark of its party, the engine
-- stands for the desk behind it, and the script goes on, or is over.
pub record TakesDeskStep (old new : DeskEngine) (line : List ℕ) (over : Bool) : Type 0 where
  pub text : (d : Desk) → StandsFor old.desk d → desk_said new ≡ joined (desk_step_of old d line).lines
  pub stands : (d : Desk) → StandsFor old.desk d → StandsFor new.desk (desk_step_of old d line).state.desk
  pub quits : (d : Desk) → StandsFor old.desk d → (desk_step_of old d line).state.over ≡ over
  pub ends : new.over ≡ over

-- there was no memory: nothing is said, and it stands for each desk that it stood for
pub record DeskStays (old new : DeskEngine) : Type 0 where
  pub text : desk_said new ≡ []
  pub stands : (d : Desk) → StandsFor old.desk d → StandsFor new.desk d
  pub ends : new.over ≡ old.over

abbrev pub AnswersDesk : DeskEngine → DeskEngine → List ℕ → Outcome → Type 0
AnswersDesk old new line Said = TakesDeskStep old new line false
AnswersDesk old new line Over = TakesDeskStep old new line true
AnswersDesk old new line NoMemory = DeskStays old new
