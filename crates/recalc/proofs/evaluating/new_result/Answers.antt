use Rattle.std.proofs.Common.{ℕ, ◌≡◌, ◌+◌, ◌≤◌, Some, sym, ap, subst, ◌∙◌}
use Rattle.std.specs.Prelude.{OnOk}
use Rattle.dict_source.specs.Dictionary.{Written, dictionary_view}
use Rattle.dict_source.specs.Facts.{fact_view}
use Rattle.dict_source.specs.Finding.{fact_at}
use Rattle.three_state.specs.declared.res.Res.{Res}
use Rattle.answers.specs.Meaning.{answered}
use Rattle.dictionary.specs.AcceptedParts.{accepted, names_of}
use Rattle.recalc.specs.Running.{live_results}
use Rattle.recalc.proofs.EvaluatingLaws.{nodes_give_plain, nodes_visit, nodes_weigh}
use Rattle.recalc.proofs.Outcomes.{ok_then}
use Rattle.recalc.proofs.evaluating.new_result.Goals as goal

pub returns-clause-value : goal.returns-clause-value
returns-clause-value g c =
    let d = accepted c.args.dict.now in
    let results = live_results c.args.cells.now.gone c.args.cells.now.store.now.cells in
    let fact = fact_view c.in-Some.fact.now in
    let here = sym (c.in-Some.ensures ∙ ap (λ (w : Written). fact_at (dictionary_view w).facts c.args.slot.fact) c.source.ensures.value) in
    ok_then c.result_by_nodes.result c.result_by_nodes.ensures.value (λ r is. ap (λ (x : Res). Some x) is
    ∙ nodes_give_plain (names_of c.args.dict.now.checks) d c.source.ensures.is_accepted c.args.nodes.now c.requires.compiled (answered c.args.answers.now) results c.args.slot fact here c.requires.below c.requires.stands)

pub returns-clause-visits : goal.returns-clause-visits
returns-clause-visits g c =
    let d = accepted c.args.dict.now in
    let results = live_results c.args.cells.now.gone c.args.cells.now.store.now.cells in
    let fact = fact_view c.in-Some.fact.now in
    let here = sym (c.in-Some.ensures ∙ ap (λ (w : Written). fact_at (dictionary_view w).facts c.args.slot.fact) c.source.ensures.value) in
    subst (λ (n : ℕ). OnOk c.result_by_nodes.result (c.result_by_nodes.new.steps ≡ c.args.steps.now + n))
    (nodes_visit (names_of c.args.dict.now.checks) d c.source.ensures.is_accepted c.args.nodes.now c.requires.compiled (answered c.args.answers.now) results c.args.slot fact here c.requires.below)
    c.result_by_nodes.ensures.visits

pub returns-clause-most : goal.returns-clause-most
returns-clause-most g c =
    let d = accepted c.args.dict.now in
    let results = live_results c.args.cells.now.gone c.args.cells.now.store.now.cells in
    let fact = fact_view c.in-Some.fact.now in
    let here = sym (c.in-Some.ensures ∙ ap (λ (w : Written). fact_at (dictionary_view w).facts c.args.slot.fact) c.source.ensures.value) in
    subst (λ (n : ℕ). c.result_by_nodes.new.steps ≤ c.args.steps.now + n)
    (nodes_weigh (names_of c.args.dict.now.checks) d c.source.ensures.is_accepted c.args.nodes.now c.requires.compiled (answered c.args.answers.now) results c.args.slot fact here c.requires.below)
    c.result_by_nodes.ensures.most
