use Rattle.std.proofs.Common.{sym}
use Rattle.dict_print.proofs.fact_value.put_words.Goals as goal

-- the text that is put is that of the words
pub returns : goal.returns
returns c = rw (sym c.as_str.ensures.value) c.put_text.ensures
