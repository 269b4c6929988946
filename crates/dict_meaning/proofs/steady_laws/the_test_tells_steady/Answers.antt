use Rattle.dict_meaning.proofs.SteadyLaws.{steady_step, tells}
use Rattle.dict_meaning.proofs.steady_laws.the_test_tells_steady.Goals as goal

pub returns-clause-tells : goal.returns-clause-tells
returns-clause-tells c = λ names d is fact. tells d.tree d.ranks is.ranked fact

pub returns-clause-step : goal.returns-clause-step
returns-clause-step c = λ names d is fact. steady_step d.tree d.ranks is.ranked fact
