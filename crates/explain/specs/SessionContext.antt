-- What an expression of a fact is evaluated over: the results of a session.
use Rattle.std.specs.Prelude.{ℕ}
use Rattle.dict_source.specs.Dictionary.{Dictionary as Tree}
use Rattle.dictionary.specs.AcceptedParts.{accepted}
use Rattle.dict_meaning.specs.Plain.{plain}
use Rattle.evaluation.specs.Results.{Results}
use Rattle.graph_session.specs.SessionView.{SessionView}
use Rattle.source_eval.specs.Context.{Context}

abbrev pub tree_of : SessionView → Tree
tree_of s = (accepted s.dict).tree

abbrev pub results_of : SessionView → Results
results_of s = plain (accepted s.dict) s.timeline.now

-- for the expressions of this fact
abbrev pub context_at : SessionView → ℕ → Context
context_at s fact = record { tree = tree_of s; results = results_of s; fact = fact }
