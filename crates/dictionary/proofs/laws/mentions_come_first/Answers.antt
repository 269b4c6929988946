use Rattle.dictionary.proofs.ByRankLaws.{mentioned_first}
use Rattle.dictionary.proofs.laws.mentions_come_first.Goals as goal

pub returns : goal.returns
returns c = λ names d list place other is by_rank low m. mentioned_first d.tree d.ranks list place other is.ranked by_rank low m
