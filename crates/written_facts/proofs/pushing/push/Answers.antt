use Rattle.dict_source.specs.Dictionary.{dictionary_view}
use Rattle.dict_source.specs.Facts.{fact_view}
use Rattle.written_facts.proofs.Taken.{taken_form, taken_limits}
use Rattle.written_facts.proofs.pushing.push.Goals as goal

pub push-requires-clause-well_formed : goal.push-requires-clause-well_formed
push-requires-clause-well_formed c = taken_form (dictionary_view c.args.source.now) (fact_view c.args.fact) c.requires

pub push-requires-clause-limits : goal.push-requires-clause-limits
push-requires-clause-limits c = taken_limits (dictionary_view c.args.source.now) (fact_view c.args.fact) c.requires
