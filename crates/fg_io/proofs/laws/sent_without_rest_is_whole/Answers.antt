use Rattle.fg_io.proofs.SentLaws.{sent_whole, whole_sent}
use Rattle.fg_io.proofs.laws.sent_without_rest_is_whole.Goals as goal

pub returns : goal.returns
returns c = λ before now text. (sent_whole before now text, whole_sent before now text)
