use Rattle.std.proofs.Common.{arith}
use Rattle.dictionary.proofs.KeptLaws.{count_ranks, few_ranks}
use Rattle.dictionary.proofs.dictionary.Dictionary.fact_count.Goals as goal

pub overflow_cast-result : goal.overflow_cast-result
overflow_cast-result c = omega (arith, rw c.deref.ensures at c.len.ensures, c.self.inside.contents.value.ranks.ok.0, few_ranks _ _ c.self.invariant.is_accepted)

pub returns : goal.returns
returns c = rw (← c.self.view_is) (omega (arith, rw c.deref.ensures at c.len.ensures, c.self.inside.contents.value.ranks.ok.0, count_ranks _ _ c.self.invariant.is_accepted))
