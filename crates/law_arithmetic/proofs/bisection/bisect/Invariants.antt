use Rattle.law_arithmetic.proofs.BisectionLemmas.{IsHalved}
use Rattle.law_arithmetic.proofs.bisection.bisect.Given as goal

abbrev pub invariant-loop-part : goal.invariant-loop-part
invariant-loop-part l = IsHalved l.rows l.n l.part.first l.part.length l.turns

abbrev pub decreases-loop-part : goal.decreases-loop-part
decreases-loop-part l = l.part.length
