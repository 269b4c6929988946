-- How a desk is begun. Why one isn't is said as of a session.
use Rattle.std.specs.Prelude.{◌≡◌, ℕ, false, List, []}
use Rattle.answers.specs.Answered.{Answered, start}
use Rattle.dict_meaning.specs.Fits.{AnswersFit}
use Rattle.graph_session.specs.Rules.{Rules, tree_of}
use Rattle.saved_text.specs.SavedText.{saved}
use Rattle.shared_desk.specs.Desk.{desk_begun}
use Rattle.shared_desk.specs.DeskView.{StandsFor}
use Rattle.fact_graph_c.specs.DeskAnswers.{desk_rules, desk_said}
use Rattle.fact_graph_c.specs.Openings.{Accepts, Brings}
use Rattle.fact_graph_c.specs.declared.desk_engine.DeskEngine.{DeskEngine}

-- over these rules from these answers, where nobody has done anything
pub record IsDeskBegun (r : Rules) (a : Answered) (e : DeskEngine) : Type 0 where
  pub by : desk_rules e ≡ r
  pub stands : StandsFor e.desk (desk_begun r a)
  pub goes_on : e.over ≡ false
  pub text : desk_said e ≡ []

-- over the dictionary that the bytes spell, with no answers
abbrev pub OpensDesk : List ℕ → DeskEngine → Type 0
OpensDesk bytes e = (r : Rules) × Accepts bytes r × IsDeskBegun r start e

-- over the one of these words that comes with the library
abbrev pub OpensDeskBuiltIn : List ℕ → DeskEngine → Type 0
OpensDeskBuiltIn words e = (r : Rules) × Brings words r × IsDeskBegun r start e

-- over these rules with the answers of which the bytes are the saved text
abbrev pub LoadsDeskOver : Rules → List ℕ → DeskEngine → Type 0
LoadsDeskOver r text e = (a : Answered) × AnswersFit (tree_of r) a × (text ≡ saved (tree_of r) a) × IsDeskBegun r a e

abbrev pub LoadsDesk : List ℕ → List ℕ → DeskEngine → Type 0
LoadsDesk bytes text e = (r : Rules) × Accepts bytes r × LoadsDeskOver r text e
