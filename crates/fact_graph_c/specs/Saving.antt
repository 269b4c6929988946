-- What saving says.
use Rattle.std.specs.Prelude.{◌≡◌, List, ℕ}
use Rattle.graph_session.specs.Rules.{tree_of}
use Rattle.saved_text.specs.SavedText.{saved}
use Rattle.fact_graph_c.specs.Answering.{rules_of}
use Rattle.fact_graph_c.specs.declared.engine.Engine.{Engine}

-- the saved text of the answers that stand
abbrev pub IsSaved : Engine → List ℕ → Type 0
IsSaved e text = text ≡ saved (tree_of (rules_of e)) e.session.timeline.now
