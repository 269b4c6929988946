use Rattle.dict_meaning.proofs.UndoneLaws.{came_tells, differs_tells, went_tells}
use Rattle.dict_meaning.proofs.undone_laws.undoing_tells_what_differs.Goals as goal

pub returns-clause-came : goal.returns-clause-came
returns-clause-came c = came_tells

pub returns-clause-went : goal.returns-clause-went
returns-clause-went c = went_tells

pub returns-clause-differs : goal.returns-clause-differs
returns-clause-differs c = differs_tells
