use Rattle.std.proofs.Common.{◌≡◌, ◌++◌, List, ℕ, flat_map, ap, sym, ◌∙◌}
use Rattle.std.proofs.lemmas.List.{append-nil}
use Rattle.three_state.specs.Folds.{down_unless}
use Rattle.operations.specs.ItemSteps.{after_item, item_step}
use Rattle.operations.specs.declared.reads.ItemStep.{ItemStep}
use Rattle.operations.specs.declared.reads.ItemStep.TheVariants.{End, Member}
use Rattle.operations.proofs.CaseLaws.{after_item-step}
use Rattle.evaluation.specs.Results.{result_at}
use Rattle.source_eval.specs.NodeReads.{target_slot}
use Rattle.source_eval.proofs.ReadLaws.{item_ended, item_named}
use Rattle.source_eval.proofs.reads.read_field.Goals as goal

pub returns-in_ok-res-in-Member-clause-value : goal.returns-in_ok-res-in-Member-clause-value
returns-in_ok-res-in-Member-clause-value g c =
    let field = result_at (g.G.EvalContext.meaning c.args.context.now).results c.args.field in
    let step : item_step c.args.item.now ≡ Member c.in-Member.member c.in-Member.complete = sym c.item_step.ensures ∙ c.in-Member.is in
    c.taken.ensures
    ∙ ap (down_unless c.in-Member.complete) c.in_ok-res-in-Member.ensures.value
    ∙ sym (ap (λ (s : ItemStep). after_item s field) step)
    ∙ after_item-step c.args.item.now field

pub returns-in_ok-res-in-Member-clause-reads : goal.returns-in_ok-res-in-Member-clause-reads
returns-in_ok-res-in-Member-clause-reads g c = λ keeps.
    let step : item_step c.args.item.now ≡ Member c.in-Member.member c.in-Member.complete = sym c.item_step.ensures ∙ c.in-Member.is in
    let old = g.N.Notes.noted c.args.notes.now in
    c.in_ok-res-in-Member.ensures.reads keeps
    ∙ ap (λ l. old ++ l) (sym (append-nil (target_slot c.args.field c.in-Member.member)))
    ∙ ap (λ (ms : List ℕ). old ++ flat_map (target_slot c.args.field) ms) (sym (item_named c.args.item.now c.in-Member.member c.in-Member.complete step))

pub returns-in-End-clause-value : goal.returns-in-End-clause-value
returns-in-End-clause-value g c =
    let field = result_at (g.G.EvalContext.meaning c.args.context.now).results c.args.field in
    let step : item_step c.args.item.now ≡ End c.in-End.res = sym c.item_step.ensures ∙ c.in-End.is in
    sym (ap (λ (s : ItemStep). after_item s field) step) ∙ after_item-step c.args.item.now field

pub returns-in-End-clause-reads : goal.returns-in-End-clause-reads
returns-in-End-clause-reads g c = λ keeps.
    let step : item_step c.args.item.now ≡ End c.in-End.res = sym c.item_step.ensures ∙ c.in-End.is in
    let old = g.N.Notes.noted c.args.notes.now in
    sym (append-nil old)
    ∙ ap (λ (ms : List ℕ). old ++ flat_map (target_slot c.args.field) ms) (sym (item_ended c.args.item.now c.in-End.res step))
