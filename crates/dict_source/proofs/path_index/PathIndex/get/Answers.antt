use Rattle.std.proofs.Common.{◌∙◌, ap}
use Rattle.dict_source.specs.PathIndex.{place_of}
use Rattle.dict_source.proofs.PathIndexLaws.{lookup-place_of}
use Rattle.dict_source.proofs.path_index.PathIndex.get.Goals as goal

pub returns : goal.returns
returns c =
    c.copied.ensures ∙ c.get.ensures.value ∙ lookup-place_of c.args.text.now c.self.inside.numbers.entries ∙ ap (place_of c.args.text.now) c.self.view_is
