use Rattle.std.proofs.Common.{◌≡◌, ℕ, ◌<◌, ◌++◌, ◌∷◌, [], List, length, length-set, length-append, get_or, set, refl, sym, ap, subst, ◌∙◌, arith}
use Rattle.dict_order.specs.Graph.{graph_of, HasCycle}
use Rattle.dict_order.specs.Ranking.{AreRanked, HasRank, Pass, rank_by}
use Rattle.dict_order.specs.declared.ranks.Mark.TheVariants.{Open, Ranked}
use Rattle.dict_order.proofs.HeightLaws.{rank_small}
use Rattle.dict_order.proofs.MentionLaws.{length_graph}
use Rattle.dict_order.proofs.PassLaws.{last_is_fact, last_has_mark, last_is_met, last_rank, listed_is_mentioned, listed_has_mark, ranks_last, unmet_set, goes_to, closes, fewer_unmet}
use Rattle.dict_order.proofs.ranks.step.Goals as goal

pub mentions-listed-requires : goal.mentions-listed-requires
mentions-listed-requires c = last_is_fact (graph_of c.args.graph.now) c.args.marks.now c.args.path.now.items c.args.fact c.requires.pass

pub slice_copy_out-passed : goal.slice_copy_out-passed
slice_copy_out-passed c = last_has_mark (graph_of c.args.graph.now) c.args.marks.now c.args.path.now.items c.args.fact c.requires.pass

pub rank_above-requires-clause-small : goal.rank_above-requires-clause-small
rank_above-requires-clause-small c =
    let rank = last_rank (graph_of c.args.graph.now) c.args.marks.now c.args.path.now.items c.args.fact c.mentions-listed.result.now c.first_unranked-passed.result c.requires.pass c.mentions-listed.ensures c.first_unranked-passed.ensures.passed c.if-passed-listed.true in
    let small = rank_small (graph_of c.args.graph.now) c.args.fact (rank_by c.args.marks.now c.mentions-listed.result.now) rank in
    omega (arith, small, length_graph c.args.graph.now, c.requires.few)

pub bounds-marks-fact : goal.bounds-marks-fact
bounds-marks-fact c = last_has_mark (graph_of c.args.graph.now) c.args.marks.now c.args.path.now.items c.args.fact c.requires.pass

pub returns-then-passed-listed-clause-pass : goal.returns-then-passed-listed-clause-pass
returns-then-passed-listed-clause-pass c =
    let graph = graph_of c.args.graph.now in
    let rank = last_rank graph c.args.marks.now c.args.path.now.items c.args.fact c.mentions-listed.result.now c.first_unranked-passed.result c.requires.pass c.mentions-listed.ensures c.first_unranked-passed.ensures.passed c.if-passed-listed.true in
    ranks_last graph c.args.marks.now c.args.path.now.items c.args.fact c.rank_above.result c.requires.pass (subst (HasRank graph c.args.fact) (sym c.rank_above.ensures) rank)

pub returns-then-passed-listed-clause-less : goal.returns-then-passed-listed-clause-less
returns-then-passed-listed-clause-less c =
    let same = unmet_set c.args.marks.now c.args.fact (Ranked c.rank_above.result) (last_has_mark (graph_of c.args.graph.now) c.args.marks.now c.args.path.now.items c.args.fact c.requires.pass) (last_is_met (graph_of c.args.graph.now) c.args.marks.now c.args.path.now.items c.args.fact c.requires.pass) refl in
    omega (arith, same)

pub slice_copy_out-is_new : goal.slice_copy_out-is_new
slice_copy_out-is_new c =
    listed_has_mark (graph_of c.args.graph.now) c.args.marks.now (c.args.path.now.items ++ c.args.fact ∷ []) c.args.fact c.mentions-listed.result.now c.first_unranked-passed.result c.requires.within c.requires.pass c.mentions-listed.ensures (omega arith)

found : (c : goal.Then-not-is_new) → HasCycle (graph_of c.args.graph.now)
found c =
    let lt : c.first_unranked-passed.result < length c.mentions-listed.result.now = omega arith in
    let mention : ℕ = get_or c.mentions-listed.result.now c.first_unranked-passed.result 0 in
    closes (graph_of c.args.graph.now) c.args.marks.now c.args.path.now.items c.args.fact mention c.requires.pass
    (listed_is_mentioned (graph_of c.args.graph.now) c.args.fact c.mentions-listed.result.now c.first_unranked-passed.result c.mentions-listed.ensures lt)
    (sym c.is_new.ensures ∙ c.if-not-is_new.true) (c.first_unranked-passed.ensures.here lt)

pub returns-then-not-is_new-clause-pass : goal.returns-then-not-is_new-clause-pass
returns-then-not-is_new-clause-pass c = found c

pub returns-then-not-is_new-clause-met : goal.returns-then-not-is_new-clause-met
returns-then-not-is_new-clause-met c = found c

pub returns-then-not-is_new-clause-less : goal.returns-then-not-is_new-clause-less
returns-then-not-is_new-clause-less c = found c

pub bounds-marks-mention : goal.bounds-marks-mention
bounds-marks-mention c =
    let lt = listed_has_mark (graph_of c.args.graph.now) c.args.marks.now (c.args.path.now.items ++ c.args.fact ∷ []) c.args.fact c.mentions-listed.result.now c.first_unranked-passed.result c.requires.within c.requires.pass c.mentions-listed.ensures (omega arith) in
    omega (arith, lt, length-set c.args.marks.now c.args.fact (Open c.first_unranked-passed.result))

pub returns-clause-pass : goal.returns-clause-pass
returns-clause-pass c =
    let graph = graph_of c.args.graph.now in
    let lt : c.first_unranked-passed.result < length c.mentions-listed.result.now = omega arith in
    let mention : ℕ = get_or c.mentions-listed.result.now c.first_unranked-passed.result 0 in
    let marks = set (set c.args.marks.now c.args.fact (Open c.first_unranked-passed.result)) mention (Open 0) in
    let path : c.push-2.new.self.items ≡ (c.args.path.now.items ++ c.args.fact ∷ []) ++ mention ∷ [] = c.in_ok-push-2.ensures.items ∙ ap (λ (l : List ℕ). l ++ mention ∷ []) c.in_ok-push.ensures.items in
    let passed = subst (AreRanked c.args.marks.now c.first_unranked-passed.result) c.mentions-listed.ensures c.first_unranked-passed.ensures.passed in
    subst (Pass graph marks) (sym path)
    (goes_to graph c.args.marks.now c.args.path.now.items c.args.fact c.first_unranked-passed.result mention c.requires.within c.requires.pass passed
    (listed_is_mentioned graph c.args.fact c.mentions-listed.result.now c.first_unranked-passed.result c.mentions-listed.ensures lt)
    (sym c.is_new.ensures ∙ c.if-not-is_new.false))

pub returns-clause-less : goal.returns-clause-less
returns-clause-less c =
    let graph = graph_of c.args.graph.now in
    let lt : c.first_unranked-passed.result < length c.mentions-listed.result.now = omega arith in
    let mention : ℕ = get_or c.mentions-listed.result.now c.first_unranked-passed.result 0 in
    let here = listed_has_mark graph c.args.marks.now (c.args.path.now.items ++ c.args.fact ∷ []) c.args.fact c.mentions-listed.result.now c.first_unranked-passed.result c.requires.within c.requires.pass c.mentions-listed.ensures lt in
    let fewer = fewer_unmet graph c.args.marks.now c.args.path.now.items c.args.fact c.first_unranked-passed.result mention c.requires.pass here (sym c.is_new.ensures ∙ c.if-not-is_new.false) in
    let one = ap length c.in_ok-push.ensures.items ∙ length-append c.args.path.now.items (c.args.fact ∷ []) in
    let two = ap length c.in_ok-push-2.ensures.items ∙ length-append c.push.new.self.items (mention ∷ []) in
    omega (arith, fewer, one, two)
