use Rattle.dictionary.specs.AcceptedParts.{accepted, names_of}
use Rattle.graph_session.proofs.TypeLaws.{given_read}
use Rattle.graph_session.proofs.judging.read_value.Goals as goal

pub read-requires : goal.read-requires
read-requires c = rw (c.enums.ensures, c.source.ensures.value) (given_read (names_of c.args.dict.now.checks) (accepted c.args.dict.now) c.source.ensures.is_accepted c.args.fact c.type_of.result c.requires.given c.type_of.ensures)
