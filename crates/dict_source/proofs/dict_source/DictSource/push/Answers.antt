use Rattle.std.proofs.Common.{◌≡◌, ◌+◌, suc, length, ◌++◌, ◌∷◌, [], ap, ◌∙◌, arith}
use Rattle.dict_source.specs.Facts.{fact_view}
use Rattle.dict_source.specs.PathIndex.{fact_noted}
use Rattle.dict_source.proofs.SourceLaws.{IsSource-last, pushed, not_err}
use Rattle.dict_source.proofs.dict_source.DictSource.push.Goals as goal

pub invariant_of-self-2 : goal.invariant_of-self-2
invariant_of-self-2 c =
    let items : c.push.new.self.items ≡ c.self.inside.facts.items ++ c.args.fact ∷ [] = pushed c.push.result c.unwrap.result c.push.new.self.items _ _ c.push.ensures.items c.unwrap.ensures ∙ ap (λ l. l ++ c.args.fact ∷ []) c.reserve.ensures.items in
    let noted : c.note_fact.new.index ≡ fact_noted c.self.inside.index (fact_view c.args.fact) (c.len.result + 1) = not_err c.note_fact.result c.is_err-2.result _ c.note_fact.ensures.noted c.is_err-2.ensures.value c.if-is_err-2.false in
    let number : c.len.result + 1 ≡ suc (length c.self.inside.facts.items) = omega (arith, c.reserve.new.self.ok.0, ap length c.reserve.ensures.items) in
    IsSource-last (record { enums = c.self.inside.enums; tables = c.self.inside.tables.items; facts = c.self.inside.facts.items }) c.args.self.now c.args.fact c.push.new.self.items c.self.inside.index c.note_fact.new.index (c.len.result + 1) c.self.view_is c.self.invariant c.requires.well_formed c.requires.limits items noted number
