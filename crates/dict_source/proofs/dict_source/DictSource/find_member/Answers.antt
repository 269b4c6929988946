use Rattle.std.proofs.Common.{◌∙◌}
use Rattle.fact_paths.specs.declared.fact_path.FactPath.TheVariants.{Member}
use Rattle.dict_source.proofs.SourceLaws.{found_by_text}
use Rattle.dict_source.proofs.dict_source.DictSource.find_member.Goals as goal

pub returns : goal.returns
returns c =
    found_by_text (record { enums = c.self.inside.enums; tables = c.self.inside.tables.items; facts = c.self.inside.facts.items }) c.args.self.now c.self.inside.index (Member c.args.collection.now c.args.member.now) c.as_str.result.now c.get.result c.self.view_is c.self.invariant (c.member_key.ensures.good_collection, c.member_key.ensures.good_member) (c.as_str.ensures.value ∙ c.member_key.ensures.text) c.get.ensures
