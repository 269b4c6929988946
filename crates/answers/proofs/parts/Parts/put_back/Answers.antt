use Rattle.std.proofs.Common.{refl}
use Rattle.answers.proofs.LookUps.{open_place}
use Rattle.answers.proofs.parts.Parts.put_back.Goals as goal

pub edit-requires-clause-place : goal.edit-requires-clause-place
edit-requires-clause-place c = open_place c.args.self.now.lists c.args.list (rw c.requires.1 refl)
