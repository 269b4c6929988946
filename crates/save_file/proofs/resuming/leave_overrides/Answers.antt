use Rattle.save_file.proofs.Common.{TextLine, line_of, not, overrides}
use Rattle.std.proofs.Common.{rules}
use Rattle.std.proofs.lemmas.Fn.{filter_same}
use Rattle.save_file.proofs.resuming.leave_overrides.Goals as goal

pub returns-clause-lines : goal.returns-clause-lines
returns-clause-lines c = filter_same _ (λ (l : TextLine). not (overrides (line_of l))) _ (λ x b f' k. search rules) _ _ c.retain.ensures.filtered
