-- What is true of every session.
use Rattle.std.specs.List.{All}
use Rattle.dict_source.specs.Dictionary.{Dictionary as Tree}
use Rattle.session_undo.specs.UndoState.{UndoState, IsConsistent}
use Rattle.session_undo.specs.Timeline.{Timeline, timeline}
use Rattle.dict_meaning.specs.Accepted.{IsAccepted}
use Rattle.dictionary.specs.AcceptedParts.{AcceptedParts, accepted, names_of}
use Rattle.dict_meaning.specs.Fits.{AnswersFit}

-- the answers at the place fit the dictionary, and so do all before and after it
pub record AllFit (d : Tree) (t : Timeline) : Type 0 where
  pub before : All (AnswersFit d) t.before
  pub now : AnswersFit d t.now
  pub after : All (AnswersFit d) t.after

-- the dictionary has no fault, and the edits that lead back and forth fit one after another, and lead through answers that fit
pub record IsSound (k : AcceptedParts) (p : UndoState) : Type 0 where
  pub is_accepted : IsAccepted (names_of k.checks) (accepted k)
  pub kept : IsConsistent p
  pub fit : AllFit (accepted k).tree (timeline p)
