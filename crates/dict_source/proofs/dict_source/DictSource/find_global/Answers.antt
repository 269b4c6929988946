use Rattle.fact_paths.specs.declared.fact_path.FactPath.TheVariants.{Global}
use Rattle.dict_source.proofs.SourceLaws.{found_by_text}
use Rattle.dict_source.proofs.dict_source.DictSource.find_global.Goals as goal

pub returns : goal.returns
returns c =
    found_by_text (record { enums = c.self.inside.enums; tables = c.self.inside.tables.items; facts = c.self.inside.facts.items }) c.args.self.now c.self.inside.index (Global c.args.name.now) c.as_str.result.now c.get.result c.self.view_is c.self.invariant c.as_str.ensures.good c.as_str.ensures.text c.get.ensures
