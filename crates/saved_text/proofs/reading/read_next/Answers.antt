use Rattle.saved_text.proofs.Common.{false, true, ◌≡◌}
use Rattle.saved_text.proofs.MemberParsing.{last_read, next_read}
use Rattle.saved_text.proofs.reading.read_next.Goals as goal

pub returns-then-is_word : goal.returns-then-is_word
returns-then-is_word c = last_read c.args.digits.now (c.is_word.ensures.0 c.if-is_word.true)

pub returns : goal.returns
returns c =
    next_read c.args.digits.now
    (λ e. (let is_it : c.is_word.result ≡ true = c.is_word.ensures.1 e in let is_not : c.is_word.result ≡ false = c.if-is_word.false in cc))
    c.read_member_number.result c.read_member_number.ensures.spelled
