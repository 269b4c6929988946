use Rattle.value_text.proofs.DigitLemmas.{small_within}
use Rattle.value_text.proofs.digits.read_digits.Goals as goal

pub returns-clause-small : goal.returns-clause-small
returns-clause-small c = small_within c.digits_number.result c.args.text.now c.args.most c.digits_number.ensures.small c.if-most-text.false
