use Rattle.std.proofs.Common.{◌≡◌, List, map, sym, ap, ◌∙◌}
use Rattle.std.proofs.lemmas.Result.{IfOk-weaker}
use Rattle.dict_source.specs.declared.operators.ManyOp.{ManyOp}
use Rattle.dict_source.specs.declared.operators.ManyOp.TheVariants as many_op
use Rattle.three_state.specs.declared.res.Res.{Res}
use Rattle.evaluation.specs.Over.{many_of}
use Rattle.operations.specs.ManyFolds.{ManySeen, many_from, many_start}
use Rattle.operations.proofs.ManyLaws.{many_from-start}
use Rattle.node_eval.specs.Globals.{global_result}
use Rattle.node_eval.proofs.globals.eval_globals.Goals as goal

pub returns-in-Add-clause-value : goal.returns-in-Add-clause-value
returns-in-Add-clause-value g c =
    let rs : List Res = map (global_result (g.C.Cells.results c.args.cells.now)) c.args.facts.now in
    IfOk-weaker c.add_globals.result (λ (r : Res). r ≡ many_from (many_start many_op.Add) rs) (λ (r : Res). r ≡ many_of c.args.op rs)
    (λ r is. is ∙ many_from-start many_op.Add rs ∙ sym (ap (λ (op : ManyOp). many_of op rs) c.in-Add.is))
    c.add_globals.ensures.value

pub returns-clause-value : goal.returns-clause-value
returns-clause-value g c =
    let rs : List Res = map (global_result (g.C.Cells.results c.args.cells.now)) c.args.facts.now in
    IfOk-weaker c.see_globals.result (λ (r : Res). r ≡ many_from c.new.result rs) (λ (r : Res). r ≡ many_of c.args.op rs)
    (λ r is. is ∙ ap (λ (seen : ManySeen). many_from seen rs) c.new.ensures ∙ many_from-start c.args.op rs)
    c.see_globals.ensures.value
