use Rattle.std.proofs.Common.{List, ℕ, sym, subst}
use Rattle.answers.specs.Meaning.{answered}
use Rattle.graph_session.specs.Rules.{rules}
use Rattle.save_file.specs.Dropped.{IsDroppedText, dropped_text}
use Rattle.save_file.proofs.DroppedLaws.{dropped_of_carry}
use Rattle.fact_graph_c.proofs.OpeningLaws.{carries_over}
use Rattle.fact_graph_c.proofs.opening.begin_from.Goals as goal

pub returns-in-Ok : goal.returns-in-Ok
returns-in-Ok c =
    let r = rules c.args.dict in
    let a = answered c.args.carried.answers in
    let said = dropped_text r c.requires.is_carry.0.lines in
    let is : IsDroppedText c.args.saved.now c.as_slice.result.now said =
    subst (λ (ns : List ℕ). IsDroppedText c.args.saved.now ns said) (sym c.as_slice.ensures.value) (dropped_of_carry r c.args.saved.now a c.args.carried.dropped.items c.requires.is_carry) in
    record {
      carried = carries_over r c.args.saved.now a c.args.carried.dropped.items _ c.requires.is_carry c.begin.result (c.in-Ok.ensures said is) c.begin.ensures.begun;
      memory = c.begin.ensures.memory;
    }
