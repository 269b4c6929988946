-- The bytes of a text of the language are UTF-8.
use Rattle.std.proofs.Common.{rules}
use Rattle.std.proofs.lemmas.Str.{is_utf8-from_IsUtf8}
use Rattle.fact_values.proofs.text.is_plain_text.Goals as goal

pub returns-then-text-le-MOST_BYTES : goal.returns-then-text-le-MOST_BYTES
returns-then-text-le-MOST_BYTES c = let utf8 = is_utf8-from_IsUtf8 c.args.text.now c.utf8.text in search rules
