-- What is true of every engine and every desk that C holds.
use Rattle.std.specs.Prelude.{◌≤◌, length}
use Rattle.dict_meaning.specs.Accepted.{IsAccepted}
use Rattle.dictionary.specs.AcceptedParts.{accepted, names_of}
use Rattle.dict_meaning.specs.Fits.{AnswersFit}
use Rattle.value_text.specs.Enums.{AreLists}
use Rattle.fact_graph_c.specs.declared.desk_engine.DeskEngine.{DeskEngine}
use Rattle.fact_graph_c.specs.declared.engine.Engine.{Engine}

-- its dictionary is accepted, its answers fit, and it watches at most 1,000 slots
pub record IsSound (e : Engine) : Type 0 where
  pub is_accepted : IsAccepted (names_of e.session.dict.checks) (accepted e.session.dict)
  pub fit : AnswersFit (accepted e.session.dict).tree e.session.timeline.now
  pub few : length e.watches.watched ≤ 1000

-- the dictionary of a desk is accepted, its lists of options are lists of names, and its answers fit
pub record IsSoundDesk (e : DeskEngine) : Type 0 where
  pub is_accepted : IsAccepted (names_of e.desk.session.dict.checks) (accepted e.desk.session.dict)
  pub lists : AreLists (accepted e.desk.session.dict).tree.enums
  pub fit : AnswersFit (accepted e.desk.session.dict).tree e.desk.session.timeline.now
