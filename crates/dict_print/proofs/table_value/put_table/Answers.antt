use Rattle.dict_print.proofs.TableLaws.{below_has_text, table_has_texts, to_is_read}
use Rattle.dict_print.proofs.table_value.put_table.Goals as goal

pub put_below-requires : goal.put_below-requires
put_below-requires c = rw c.below.ensures (below_has_text c.args.enums.now c.args.table.now c.requires.lists c.requires.typed)

pub put_rows-requires : goal.put_rows-requires
put_rows-requires c =
    rw (c.from-from.ensures.value, c.rows-2.ensures.value, c.rows.ensures)
    (table_has_texts c.args.enums.now c.args.table.now c.requires.lists c.from-from.ensures.table c.requires.typed)

pub put_to-requires : goal.put_to-requires
put_to-requires c = rw c.to.ensures.value (to_is_read c.args.enums.now c.args.table.now c.requires.typed)
