use Rattle.dict_source.proofs.SourceLaws.{IsSource-new}
use Rattle.dict_source.proofs.dict_source.DictSource.new.Goals as goal

pub invariant_of-result : goal.invariant_of-result
invariant_of-result c =
    IsSource-new c.args.enums c.new.result.items c.new-2.result.items c.new-3.result c.requires.lists c.requires.options c.new.ensures.items c.new-2.ensures.items c.new-3.ensures
