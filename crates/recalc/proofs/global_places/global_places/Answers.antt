use Rattle.dictionary.specs.AcceptedParts.{accepted, names_of}
use Rattle.recalc.proofs.SeedingLaws.{order_numbers}
use Rattle.recalc.proofs.global_places.global_places.Goals as goal

pub add_facts-requires : goal.add_facts-requires
add_facts-requires c = order_numbers (names_of c.args.dict.now.checks) (accepted c.args.dict.now) c.source-source.ensures.is_accepted c.by_rank-facts.result.now c.by_rank-facts.ensures
