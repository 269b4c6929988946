use Rattle.save_file.proofs.DroppedLaws.{behind_at, behind_uncut, word_at, word_uncut}
use Rattle.save_file.proofs.dropped.cut_word.Goals as goal

pub returns-in-None-clause-word : goal.returns-in-None-clause-word
returns-in-None-clause-word c = word_uncut c.args.text.now c.in-None.ensures.none

pub returns-in-None-clause-behind : goal.returns-in-None-clause-behind
returns-in-None-clause-behind c = behind_uncut c.args.text.now c.in-None.ensures.none

pub returns-in-Some-clause-word : goal.returns-in-Some-clause-word
returns-in-Some-clause-word c = word_at c.args.text.now c.in-Some.at c.in-Some.ensures.found

pub returns-in-Some-clause-behind : goal.returns-in-Some-clause-behind
returns-in-Some-clause-behind c = behind_at c.args.text.now c.in-Some.at c.in-Some.ensures.found
