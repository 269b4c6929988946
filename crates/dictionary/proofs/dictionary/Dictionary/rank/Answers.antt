use Rattle.std.proofs.Common.{◌-◌, arith}
use Rattle.dictionary.proofs.KeptLaws.{count_ranks, rank_of_fact}
use Rattle.dictionary.proofs.dictionary.Dictionary.rank.Goals as goal

pub index-requires : goal.index-requires
index-requires c =
    let there = rw (← c.self.view_is) at c.requires.1 in
    rw c.deref.ensures (omega (arith, c.self.inside.contents.value.ranks.ok.0, count_ranks _ _ c.self.invariant.is_accepted, c.requires.0, there))

pub returns : goal.returns
returns c =
    let there = rw (← c.self.view_is) at c.requires.1 in
    rw (← c.self.view_is)
    (rank_of_fact _ _ c.args.fact (c.args.fact - 1) c.index.result.now c.self.invariant.is_accepted (rw c.deref.ensures at c.index.ensures) (omega (arith, c.requires.0)) (omega (arith, c.requires.0, there)))
