use Rattle.std.proofs.Common.{◌∙◌, ◌-◌, sym, arith}
use Rattle.law_arithmetic.proofs.BisectionLemmas.{short_rises}
use Rattle.law_arithmetic.proofs.table.are_rising.Goals as goal

pub returns : goal.returns
returns c =
    sym (short_rises c.args.rows.now (c.loop-i.i - 1) (omega (arith, c.loop-i.invariant.0))) ∙ c.loop-i.invariant.1
