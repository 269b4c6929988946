use Rattle.std.proofs.Common.{◌≡◌, ℕ, ◌+◌, ◌≤◌, Some, sym, ap, subst, ◌∙◌}
use Rattle.std.proofs.lemmas.Result.{on_ok_weaker}
use Rattle.dict_source.specs.Dictionary.{Written, dictionary_view}
use Rattle.dict_source.specs.Facts.{fact_view}
use Rattle.dict_source.specs.Finding.{fact_at}
use Rattle.three_state.specs.declared.res.Res.{Res}
use Rattle.answers.specs.Meaning.{answered}
use Rattle.dictionary.specs.AcceptedParts.{accepted, names_of}
use Rattle.dict_meaning.specs.Plain.{slot_result}
use Rattle.visit_counts.specs.SlotVisits.{slot_visits, visits_over}
use Rattle.visit_counts.proofs.SlotVisitLaws.{visits_over_lower}
use Rattle.source_eval.specs.Context.{Context}
use Rattle.plain_table.specs.Table.{results_of}
use Rattle.full_evaluation.proofs.FillingLaws.{put_is_filled}
use Rattle.plain_table.proofs.FillingLaws.{result_is_plain}
use Rattle.plain_table.proofs.WorkLaws.{slot_weighs}
use Rattle.plain_table.proofs.table.TableResultTable.put_slot.Goals as goal

pub returns-in_err-res-clause-most : goal.returns-in_err-res-clause-most
returns-in_err-res-clause-most g c =
    let d = accepted c.args.dict.now in
    let meaning : Context = record { tree = dictionary_view c.source-source.result.now; results = results_of c.args.self.now; fact = c.args.slot.fact } in
    let here = sym (c.in-Some.ensures ∙ ap (λ (w : Written). fact_at (dictionary_view w).facts c.args.slot.fact) c.source-source.ensures.value) in
    subst (λ (n : ℕ). c.slot_result.new.steps ≤ c.args.steps.now + n)
    (slot_weighs (names_of c.args.dict.now.checks) d c.source-source.ensures.is_accepted (answered c.args.answers.now) meaning c.args.slot.member (fact_view c.in-Some.fact.now) (ap dictionary_view c.source-source.ensures.value) here c.requires.below)
    c.slot_result.ensures.most

pub returns-clause-filled : goal.returns-clause-filled
returns-clause-filled g c =
    let d = accepted c.args.dict.now in
    let a = answered c.args.answers.now in
    let results = results_of c.args.self.now in
    let fact = fact_view c.in-Some.fact.now in
    let here = sym (c.in-Some.ensures ∙ ap (λ (w : Written). fact_at (dictionary_view w).facts c.args.slot.fact) c.source-source.ensures.value) in
    let plain =
    ap (λ (r : Res). Some r) (c.in_ok-res.ensures.value ∙ ap (λ (w : Written). slot_result (dictionary_view w) a results c.args.slot fact) c.source-source.ensures.value)
    ∙ result_is_plain (names_of c.args.dict.now.checks) d c.source-source.ensures.is_accepted a results c.args.slot fact here c.requires.stands c.requires.below in
    on_ok_weaker c.put.result (put_is_filled d a results (results_of c.put.new.self) c.args.slot.fact c.args.slot.member c.in_ok-res.res plain) c.put.ensures

pub returns-clause-most : goal.returns-clause-most
returns-clause-most g c =
    let d = accepted c.args.dict.now in
    let meaning : Context = record { tree = dictionary_view c.source-source.result.now; results = results_of c.args.self.now; fact = c.args.slot.fact } in
    let here = sym (c.in-Some.ensures ∙ ap (λ (w : Written). fact_at (dictionary_view w).facts c.args.slot.fact) c.source-source.ensures.value) in
    subst (λ (n : ℕ). c.slot_result.new.steps ≤ c.args.steps.now + n)
    (slot_weighs (names_of c.args.dict.now.checks) d c.source-source.ensures.is_accepted (answered c.args.answers.now) meaning c.args.slot.member (fact_view c.in-Some.fact.now) (ap dictionary_view c.source-source.ensures.value) here c.requires.below)
    c.slot_result.ensures.most

pub returns-clause-visits : goal.returns-clause-visits
returns-clause-visits g c =
    let d = accepted c.args.dict.now in
    let a = answered c.args.answers.now in
    let results = results_of c.args.self.now in
    let fact = fact_view c.in-Some.fact.now in
    let here = sym (c.in-Some.ensures ∙ ap (λ (w : Written). fact_at (dictionary_view w).facts c.args.slot.fact) c.source-source.ensures.value) in
    let visited : c.slot_result.new.steps ≡ c.args.steps.now + slot_visits d a c.args.slot =
    c.in_ok-res.ensures.visits
    ∙ ap (λ n. c.args.steps.now + n)
    (ap (λ (w : Written). visits_over (dictionary_view w) a results c.args.slot fact) c.source-source.ensures.value
    ∙ visits_over_lower (names_of c.args.dict.now.checks) d c.source-source.ensures.is_accepted a results c.args.slot fact here c.requires.below) in
    on_ok_weaker c.put.result (λ _. visited) c.put.ensures
