use Rattle.std.proofs.Common.{refl}
use Rattle.dict_source.specs.Dictionary.{dictionary_view}
use Rattle.dict_gen.proofs.Pushing.{one_pushed, one_taken}
use Rattle.dict_gen.proofs.source.push_one_more.Goals as goal

pub push_facts-requires : goal.push_facts-requires
push_facts-requires c = one_taken (dictionary_view c.args.source.now) c.args.path.now c.args.other _ _ refl refl c.requires

pub returns : goal.returns
returns c = one_pushed (dictionary_view c.args.source.now) (dictionary_view c.push_facts.new.source) c.args.path.now c.args.other _ _ c.push_facts.result refl refl c.push_facts.ensures
