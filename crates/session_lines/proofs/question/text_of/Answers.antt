use Rattle.std.proofs.Common.{sym, ◌∙◌}
use Rattle.script_lines.proofs.Bytes.{ascii_is_utf8}
use Rattle.session_lines.proofs.question.text_of.Goals as goal

pub from_utf8_unchecked-requires : goal.from_utf8_unchecked-requires
from_utf8_unchecked-requires c = ascii_is_utf8 c.args.bytes.now (sym c.are_ascii.ensures ∙ c.if-are_ascii.true)
