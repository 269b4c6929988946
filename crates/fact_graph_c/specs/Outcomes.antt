-- How a call on a session ended, as a number.
use Rattle.std.specs.Prelude.{ℕ}
use Rattle.fact_graph_c.specs.declared.outcome.Outcome.{Outcome}
use Rattle.fact_graph_c.specs.declared.outcome.Outcome.TheVariants.{Said, Over, NoMemory}

abbrev pub outcome_number : Outcome → ℕ
outcome_number Said = 0
outcome_number Over = 1
outcome_number NoMemory = 2
