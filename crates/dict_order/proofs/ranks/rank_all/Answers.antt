use Rattle.std.proofs.Common.{◌≡◌, ℕ, ◌+◌, List, length, map, drop, ap, subst, sym, ◌∙◌, arith}
use Rattle.dict_order.specs.Graph.{graph_of}
use Rattle.dict_order.specs.Ranks.{AreRanks}
use Rattle.dict_order.specs.Ranking.{rank_at}
use Rattle.dict_order.specs.declared.ranks.Mark.{Mark}
use Rattle.dict_order.proofs.MentionLaws.{length_graph}
use Rattle.dict_order.proofs.PassLaws.{all_new, begins, ends}
use Rattle.dict_order.proofs.ranks.rank_all.Goals as goal

pub loop-place-init : goal.loop-place-init
loop-place-init c =
    let e : c.in_ok-marks.marks.items ≡ all_new (length c.args.graph.now + 1) = c.in_ok-marks.ensures.items_if_clones_equal (λ y h. h) in
    let n : length c.args.graph.now ≡ length (graph_of c.args.graph.now) = sym (length_graph c.args.graph.now) in
    record {
      pass = begins (graph_of c.args.graph.now) c.in_ok-marks.marks.items (e ∙ ap (λ (k : ℕ). all_new (k + 1)) n);
      met = λ fact low high. absurd (omega (arith, low, high));
    }

pub returns : goal.returns
returns c =
    let graph = graph_of c.args.graph.now in
    let are : AreRanks graph (map rank_at (drop 1 c.loop-place.marks.items)) = ends graph c.loop-place.marks.items c.loop-place.invariant.pass (λ fact is. c.loop-place.invariant.met fact is.0 (omega (arith, is.1, length_graph c.args.graph.now))) in
    let e : c.in_ok-ranks.ranks.items ≡ map rank_at (drop 1 c.loop-place.marks.items) = c.in_ok-ranks.ensures ∙ ap (λ (l : List Mark). map rank_at (drop 1 l)) c.as_slice.ensures.value in
    subst (AreRanks graph) (sym e) are
