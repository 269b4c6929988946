use Rattle.std.proofs.Common.{◌≡◌, ◌-◌, suc, ap, ◌∙◌, slice_get, option_map, arith}
use Rattle.dict_source.specs.Facts.{fact_view}
use Rattle.dict_source.proofs.FindingLaws.{fact_at-view}
use Rattle.dict_source.proofs.dict_source.DictSource.fact.Goals as goal

pub returns : goal.returns
returns c =
    let number : c.args.number ≡ suc (c.args.number - 1) = omega (arith, c.if-number-eq0.false) in
    ap (option_map fact_view) (c.item_at.ensures ∙ ap (λ facts. slice_get facts (c.args.number - 1)) c.facts.ensures.value)
    ∙ fact_at-view c.args.self.now.facts c.args.number (c.args.number - 1) number
