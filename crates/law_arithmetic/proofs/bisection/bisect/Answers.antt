use Rattle.std.proofs.Common.{w64, to_z, of_z, arith}
use Rattle.std.proofs.lemmas.Int.{to_z-of_z}
use Rattle.law_arithmetic.proofs.BisectionLemmas.{halved_more, parted_at}
use Rattle.law_arithmetic.proofs.bisection.bisect.Goals as goal

pub loop-part-preserved : goal.loop-part-preserved
loop-part-preserved c =
    halved_more c.args.rows.now (to_z w64 (of_z w64 c.args.n)) c.loop-part.part.first c.loop-part.part.length c.loop-part.turns c.halve-part.result.first c.halve-part.result.length
    c.loop-part.invariant (omega arith) c.halve-part.ensures.half c.halve-part.ensures.narrowed

pub returns-clause-begun : goal.returns-clause-begun
returns-clause-begun c =
    parted_at c.args.n (to_z w64 (of_z w64 c.args.n)) c.args.rows.now c.loop-part.part.first c.loop-part.part.length
    (to_z-of_z w64 c.args.n c.ranges.n) c.loop-part-test.false c.loop-part.invariant.narrowed
