-- Which of the slots that a walk has found are listed.
use Rattle.std.specs.Prelude.{◌&&◌, Bool}
use Rattle.fact_values.specs.declared.slot.Slot.{Slot}
use Rattle.graph_session.specs.SessionView.{SessionView}
use Rattle.explain.specs.declared.found.Found.{Found}
use Rattle.explain.specs.Found.{has}
use Rattle.explain.specs.SessionContext.{tree_of}
use Rattle.explain.specs.Missing.{is_unanswered}

abbrev pub is_listed : SessionView → Found → Slot → Bool
is_listed s f t = has f t && is_unanswered (tree_of s) s.timeline.now t
