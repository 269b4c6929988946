-- A table as it lies in memory.
use Rattle.dict_source.specs.declared.lookup_table.Contents.{Contents}
use Rattle.dict_source.specs.Tables.{LookupTable}

abbrev pub contents_view : Contents → LookupTable
contents_view c = record { name = c.name; from = c.from; to = c.to; rows = c.rows; below = c.below }
