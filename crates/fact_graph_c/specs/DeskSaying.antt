-- Calls that say a text of a desk, and change nothing else.
use Rattle.std.specs.Prelude.{◌≡◌, List, ℕ}
use Rattle.graph_session.specs.Rules.{tree_of}
use Rattle.saved_text.specs.SavedText.{saved}
use Rattle.fact_graph_c.specs.DeskAnswers.{desk_rules, desk_said}
use Rattle.fact_graph_c.specs.Saying.{SaysText}
use Rattle.fact_graph_c.specs.declared.desk_engine.DeskEngine.{DeskEngine}
use Rattle.fact_graph_c.specs.declared.outcome.Outcome.{Outcome}

-- the desk is as before
pub record DeskSays (IsText : List ℕ → Type 0) (old new : DeskEngine) (outcome : Outcome) : Type 0 where
  pub text : SaysText IsText outcome (desk_said new)
  pub desk : new.desk ≡ old.desk
  pub over : new.over ≡ old.over

-- the saved text of the answers that stand
abbrev pub IsDeskSaved : DeskEngine → List ℕ → Type 0
IsDeskSaved e text = text ≡ saved (tree_of (desk_rules e)) e.desk.session.timeline.now
