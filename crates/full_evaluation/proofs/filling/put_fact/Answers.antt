use Rattle.std.proofs.Common.{◌≡◌, ℕ, ◌+◌, List, map, sum_by, sym, ap, subst, ◌∙◌}
use Rattle.std.specs.Prelude.{OnOk}
use Rattle.answers.specs.Meaning.{answered}
use Rattle.dictionary.specs.AcceptedParts.{accepted}
use Rattle.evaluation.specs.Results.{slot}
use Rattle.dict_meaning.specs.Slots.{members_of_home}
use Rattle.visit_counts.specs.SlotVisits.{slot_visits}
use Rattle.full_evaluation.specs.Filling.{IsFilled, is_at}
use Rattle.full_evaluation.proofs.WorkLaws.{sum_mapped}
use Rattle.full_evaluation.proofs.filling.put_fact.Goals as goal

pub returns-clause-filled : goal.returns-clause-filled
returns-clause-filled g c =
    let d = accepted c.args.dict.now in
    let a = answered c.args.answers.now in
    subst (λ (ms : List ℕ). OnOk c.put_members.result (IsFilled d a (g.T.ResultTable.results c.args.table.now) (is_at c.args.fact ms) (g.T.ResultTable.results c.put_members.new.table)))
    (c.members_of_home-members.ensures ∙ ap (members_of_home a) c.home-home.ensures)
    c.put_members.ensures.filled

pub returns-clause-visits : goal.returns-clause-visits
returns-clause-visits g c =
    let d = accepted c.args.dict.now in
    let a = answered c.args.answers.now in
    subst (λ (n : ℕ). OnOk c.put_members.result (c.put_members.new.steps ≡ c.args.steps.now + n))
    (sym (sum_mapped (slot_visits d a) (slot c.args.fact) c.members_of_home-members.result.now) ∙ ap (λ ms. sum_by (slot_visits d a) (map (slot c.args.fact) ms)) (c.members_of_home-members.ensures ∙ ap (members_of_home a) c.home-home.ensures))
    c.put_members.ensures.visits
