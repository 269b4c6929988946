use Rattle.std.proofs.Common.{w64}
use Rattle.std.proofs.lemmas.Int.{to_z-of_z}
use Rattle.dict_print.proofs.TableLaws.{key_has_text}
use Rattle.dict_print.proofs.table_value.key_text.Goals as goal

pub text_value-requires : goal.text_value-requires
text_value-requires c = rw (c.new.ensures, c.key_value.ensures, to_z-of_z w64 c.args.key c.ranges.key) (key_has_text c.args.from c.args.key c.requires)
