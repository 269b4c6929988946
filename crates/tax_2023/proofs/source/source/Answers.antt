use Rattle.tax_2023.proofs.SourceLaws.{few_options}
use Rattle.tax_2023.proofs.source.source.Goals as goal

pub new-source-requires-clause-options : goal.new-source-requires-clause-options
new-source-requires-clause-options c = rw c.in_ok-options.ensures few_options
