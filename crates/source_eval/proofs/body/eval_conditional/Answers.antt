use Rattle.std.proofs.Common.{sym, ◌∙◌, arith}
use Rattle.std.proofs.lemmas.List.{append-nil}
use Rattle.dict_source.specs.View.{view}
use Rattle.evaluation.specs.Over.{over}
use Rattle.operations.specs.declared.cases.CaseStep.TheVariants.{Next, Take, End}
use Rattle.std.proofs.lemmas.Result.{on_ok_weaker}
use Rattle.operations.proofs.StepLaws.{ok_same}
use Rattle.source_eval.specs.Context.{env_of}
use Rattle.source_eval.proofs.EvalLaws.{conditional_at, conditional_visits}
use Rattle.source_eval.proofs.ReadLaws.{conditional_read}
use Rattle.source_eval.proofs.body.eval_conditional.Goals as goal

pub returns-in-Next-clause-value : goal.returns-in-Next-clause-value
returns-in-Next-clause-value g c =
    let at = over (env_of (g.G.EvalContext.meaning c.args.context.now)) c.args.at in
    ok_same c.take.result _ _ (conditional_at (at (view c.args.pair.now.test)) (at (view c.args.pair.now.value)) (at (view c.args.main.now)) (Next c.in-Next.still) (sym c.in-Next.is ∙ c.in_ok-step.ensures.step)) c.take.ensures.value

pub returns-in-Take-clause-value : goal.returns-in-Take-clause-value
returns-in-Take-clause-value g c =
    let at = over (env_of (g.G.EvalContext.meaning c.args.context.now)) c.args.at in
    ok_same c.take-in-Take.result _ _ (conditional_at (at (view c.args.pair.now.test)) (at (view c.args.pair.now.value)) (at (view c.args.main.now)) (Take c.in-Take.still) (sym c.in-Take.is ∙ c.in_ok-step.ensures.step)) c.take-in-Take.ensures.value

pub returns-in-End-clause-value : goal.returns-in-End-clause-value
returns-in-End-clause-value g c =
    let at = over (env_of (g.G.EvalContext.meaning c.args.context.now)) c.args.at in
    conditional_at (at (view c.args.pair.now.test)) (at (view c.args.pair.now.value)) (at (view c.args.main.now)) (End c.in-End.res) (sym c.in-End.is ∙ c.in_ok-step.ensures.step)

pub returns-in-Next-clause-visits : goal.returns-in-Next-clause-visits
returns-in-Next-clause-visits g c =
    let meaning = g.G.EvalContext.meaning c.args.context.now in
    let all = conditional_visits meaning c.args.at (view c.args.pair.now.test) (view c.args.pair.now.value) (view c.args.main.now) (Next c.in-Next.still) (sym c.in-Next.is ∙ c.in_ok-step.ensures.step) in
    let ticked = c.tick.ensures in
    let judged = c.in_ok-step.ensures.visits in
    let again = c.tick-in-Next.ensures in
    on_ok_weaker c.take.result (λ now. omega (arith, all, ticked, judged, again, now)) c.take.ensures.visits

pub returns-in-Take-clause-visits : goal.returns-in-Take-clause-visits
returns-in-Take-clause-visits g c =
    let meaning = g.G.EvalContext.meaning c.args.context.now in
    let all = conditional_visits meaning c.args.at (view c.args.pair.now.test) (view c.args.pair.now.value) (view c.args.main.now) (Take c.in-Take.still) (sym c.in-Take.is ∙ c.in_ok-step.ensures.step) in
    let ticked = c.tick.ensures in
    let judged = c.in_ok-step.ensures.visits in
    on_ok_weaker c.take-in-Take.result (λ now. omega (arith, all, ticked, judged, now)) c.take-in-Take.ensures.visits

pub returns-in-End-clause-visits : goal.returns-in-End-clause-visits
returns-in-End-clause-visits g c =
    let meaning = g.G.EvalContext.meaning c.args.context.now in
    let all = conditional_visits meaning c.args.at (view c.args.pair.now.test) (view c.args.pair.now.value) (view c.args.main.now) (End c.in-End.res) (sym c.in-End.is ∙ c.in_ok-step.ensures.step) in
    omega (arith, all, c.tick.ensures, c.in_ok-step.ensures.visits)

pub returns-in-Next-clause-reads : goal.returns-in-Next-clause-reads
returns-in-Next-clause-reads g c =
    on_ok_weaker c.take.result
    (λ read keeps.
    read keeps
    ∙ conditional_read (g.G.EvalContext.meaning c.args.context.now) c.args.at (view c.args.pair.now.test) (view c.args.pair.now.value) (view c.args.main.now) (Next c.in-Next.still) (sym c.in-Next.is ∙ c.in_ok-step.ensures.step) _ _ (c.in_ok-step.ensures.reads keeps))
    c.take.ensures.reads

pub returns-in-Take-clause-reads : goal.returns-in-Take-clause-reads
returns-in-Take-clause-reads g c =
    on_ok_weaker c.take-in-Take.result
    (λ read keeps.
    read keeps
    ∙ conditional_read (g.G.EvalContext.meaning c.args.context.now) c.args.at (view c.args.pair.now.test) (view c.args.pair.now.value) (view c.args.main.now) (Take c.in-Take.still) (sym c.in-Take.is ∙ c.in_ok-step.ensures.step) _ _ (c.in_ok-step.ensures.reads keeps))
    c.take-in-Take.ensures.reads

pub returns-in-End-clause-reads : goal.returns-in-End-clause-reads
returns-in-End-clause-reads g c = λ keeps.
    sym (append-nil _)
    ∙ conditional_read (g.G.EvalContext.meaning c.args.context.now) c.args.at (view c.args.pair.now.test) (view c.args.pair.now.value) (view c.args.main.now) (End c.in-End.res) (sym c.in-End.is ∙ c.in_ok-step.ensures.step) _ _ (c.in_ok-step.ensures.reads keeps)
