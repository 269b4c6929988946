use Rattle.std.proofs.Common.{◌≡◌, drop}
use Rattle.dict_source.specs.Tables.{are_keys}
use Rattle.dict_source.proofs.lookup_table.are_keys.Given as goal

abbrev pub invariant-loop-row : goal.invariant-loop-row
invariant-loop-row l = are_keys l.from (drop l.row-index l.rows) ≡ are_keys l.from l.rows
