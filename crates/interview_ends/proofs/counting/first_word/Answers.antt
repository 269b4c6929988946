use Rattle.interview_ends.proofs.FirstWords.{one_word, word_at}
use Rattle.interview_ends.proofs.counting.first_word.Goals as goal

pub returns-in-None : goal.returns-in-None
returns-in-None c = one_word c.args.line.now c.in-None.ensures.none

pub returns-in-Some : goal.returns-in-Some
returns-in-Some c = word_at c.args.line.now c.in-Some.at c.in-Some.ensures.found
