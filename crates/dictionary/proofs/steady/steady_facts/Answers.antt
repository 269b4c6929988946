use Rattle.std.proofs.Common.{◌≤◌, Bool, List, length, get_or, ap, arith, length-set, refl, ◌∙◌}
use Rattle.dict_source.specs.Dictionary.{dictionary_view}
use Rattle.dictionary.specs.SteadyDependencies.{known_at}
use Rattle.dictionary.proofs.SettleLaws.{all_known, settled}
use Rattle.dictionary.proofs.steady.steady_facts.Goals as goal

pub loop-number-preserved : goal.loop-number-preserved
loop-number-preserved c =
    let order = c.args.by_rank.now in
    let index = c.loop-number.number-index in
    let fact = c.requires index c.loop-number-test.true in
    let high : get_or order index 0 ≤ length c.loop-number.known.items = omega (arith, fact.1, c.loop-number.invariant.count) in
    record {
      count = ap length c.settle.ensures ∙ length-set c.loop-number.known.items _ _ ∙ c.loop-number.invariant.count;
      known = λ ranks ranked by_rank place lt.
          ap (λ (k : List Bool). known_at k (get_or order place 0)) c.settle.ensures
          ∙ settled (dictionary_view c.args.source.now) ranks order ranked by_rank c.loop-number.known.items index c.loop-number-test.true (c.loop-number.invariant.known ranks ranked by_rank) (get_or order index 0) place refl fact.0 high lt;
    }

pub returns : goal.returns
returns c =
    λ ranks ranked by_rank. all_known (dictionary_view c.args.source.now) ranks c.args.by_rank.now c.loop-number.known.items ranked by_rank c.loop-number.invariant.count
    (λ place low. c.loop-number.invariant.known ranks ranked by_rank place (omega (arith, low, c.loop-number-test.false)))
