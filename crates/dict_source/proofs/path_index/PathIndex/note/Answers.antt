use Rattle.dict_source.proofs.PathIndexLaws.{noted-there, noted-new}
use Rattle.dict_source.proofs.path_index.PathIndex.note.Goals as goal

pub returns-then-contains_key-clause-noted : goal.returns-then-contains_key-clause-noted
returns-then-contains_key-clause-noted c =
    noted-there c.args.text.now c.args.number c.self.inside.numbers.entries c.args.self.now c.contains_key.result c.self.view_is c.contains_key.ensures c.if-contains_key.true

pub returns-clause-noted : goal.returns-clause-noted
returns-clause-noted c =
    noted-new c.args.text.now c.args.number c.in_ok-key.key c.self.inside.numbers.entries c.insert.new.self.entries c.args.self.now c.contains_key.result c.self.view_is c.contains_key.ensures c.if-contains_key.false c.in_ok-key.ensures.ok c.in_ok-insert.ensures.entries
