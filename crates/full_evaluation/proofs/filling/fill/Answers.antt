use Rattle.std.proofs.Common.{ℕ, ◌+◌, ◌∙◌, ap, arith, drop, get_or, sum_by}
use Rattle.std.proofs.lemmas.List.{at_drop_more}
use Rattle.std.proofs.lemmas.List.Sums.{sum_by-cons}
use Rattle.answers.specs.Meaning.{answered}
use Rattle.dictionary.specs.AcceptedParts.{accepted, names_of}
use Rattle.dict_meaning.specs.Slots.{slots_of}
use Rattle.dict_meaning.specs.Weights.{slot_weight}
use Rattle.dictionary.proofs.ByRankLaws.{fact_at_place}
use Rattle.dictionary.proofs.KeptLaws.{count_ranks}
use Rattle.visit_counts.specs.SlotVisits.{slot_visits}
use Rattle.full_evaluation.proofs.WholeLaws.{all_done, below_next, facts_next}
use Rattle.full_evaluation.proofs.WorkLaws.{whole_work}
use Rattle.full_evaluation.proofs.filling.fill.Goals as goal

pub loop-fact-init : goal.loop-fact-init
loop-fact-init g c =
    let d = accepted c.args.dict.now in
    let count = count_ranks (names_of c.args.dict.now.checks) d c.source-source.ensures.is_accepted in
    let a = answered c.args.answers.now in
    record {
      ready = c.requires.ready;
      done = λ s. c.requires.empty s;
      visits = ap (λ n. c.args.steps.now + n) (whole_work d a (slot_visits d a) c.by_rank-fact-items.result.now c.by_rank-fact-items.ensures count);
      most = omega (arith, whole_work d a (slot_weight d a) c.by_rank-fact-items.result.now c.by_rank-fact-items.ensures count);
    }

pub put_fact-requires-clause-number : goal.put_fact-requires-clause-number
put_fact-requires-clause-number g c =
    let d = accepted c.args.dict.now in
    let place = fact_at_place d.ranks c.by_rank-fact-items.result.now c.loop-fact.fact-index c.by_rank-fact-items.ensures c.loop-fact-test.true in
    let count = count_ranks (names_of c.args.dict.now.checks) d c.source-source.ensures.is_accepted in
    (place.0, omega (arith, place.1, count))

pub put_fact-requires-clause-below : goal.put_fact-requires-clause-below
put_fact-requires-clause-below g c =
    let d = accepted c.args.dict.now in
    let count = count_ranks (names_of c.args.dict.now.checks) d c.source-source.ensures.is_accepted in
    below_next d (answered c.args.answers.now) c.by_rank-fact-items.result.now c.by_rank-fact-items.ensures count c.loop-fact.fact-index (g.T.ResultTable.results c.loop-fact.table) c.loop-fact-test.true c.loop-fact.invariant.done

pub loop-fact-preserved : goal.loop-fact-preserved
loop-fact-preserved g c =
    let d = accepted c.args.dict.now in
    let a = answered c.args.answers.now in
    let order = c.by_rank-fact-items.result.now in
    let i = c.loop-fact.fact-index in
    let count = count_ranks (names_of c.args.dict.now.checks) d c.source-source.ensures.is_accepted in
    let weight_of : ℕ → ℕ = λ n. sum_by (slot_weight d a) (slots_of d.tree a n) in
    let visits_of : ℕ → ℕ = λ n. sum_by (slot_visits d a) (slots_of d.tree a n) in
    let weigh = at_drop_more (sum_by weight_of) order i 0 c.loop-fact-test.true ∙ sum_by-cons weight_of (get_or order i 0) (drop (i + 1) order) in
    let visited = at_drop_more (sum_by visits_of) order i 0 c.loop-fact-test.true ∙ sum_by-cons visits_of (get_or order i 0) (drop (i + 1) order) in
    record {
      ready = c.in_ok-put_fact.ensures.ready;
      done = facts_next d a order c.by_rank-fact-items.ensures count i (g.T.ResultTable.results c.loop-fact.table) (g.T.ResultTable.results c.put_fact.new.table) c.loop-fact-test.true c.loop-fact.invariant.done c.in_ok-put_fact.ensures.filled;
      visits = omega (arith, visited, c.in_ok-put_fact.ensures.visits, c.loop-fact.invariant.visits);
      most = omega (arith, weigh, c.in_ok-put_fact.ensures.most, c.loop-fact.invariant.most);
    }

pub returns-clause-all : goal.returns-clause-all
returns-clause-all g c =
    let d = accepted c.args.dict.now in
    let count = count_ranks (names_of c.args.dict.now.checks) d c.source-source.ensures.is_accepted in
    all_done d (answered c.args.answers.now) c.by_rank-fact-items.result.now c.by_rank-fact-items.ensures count c.loop-fact.fact-index (g.T.ResultTable.results c.loop-fact.table) c.loop-fact-test.false c.loop-fact.invariant.done
