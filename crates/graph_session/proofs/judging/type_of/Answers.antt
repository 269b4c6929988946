use Rattle.dictionary.specs.AcceptedParts.{accepted, names_of}
use Rattle.graph_session.proofs.TypeLaws.{type_kept, kept_there}
use Rattle.graph_session.proofs.judging.type_of.Goals as goal

pub fact_type-requires : goal.fact_type-requires
fact_type-requires c =
    rw c.typed.ensures (kept_there (names_of c.args.dict.now.checks) (accepted c.args.dict.now) c.source-accepted.ensures.is_accepted c.args.fact c.requires).0

pub returns : goal.returns
returns c =
    type_kept (names_of c.args.dict.now.checks) (accepted c.args.dict.now) c.source-accepted.ensures.is_accepted c.args.fact c.fact_type.result (rw c.typed.ensures at c.fact_type.ensures)
