use Rattle.std.proofs.Common.{◌≡◌, drop, map}
use Rattle.std.specs.List.{list_all}
use Rattle.dict_source.specs.Tables.{is_kind}
use Rattle.dict_source.proofs.lookup_table.have_kind.Given as goal

abbrev pub invariant-loop-row : goal.invariant-loop-row
invariant-loop-row l = list_all (is_kind l.to) (map (λ row. row.value) (drop l.row-index l.rows)) ≡ list_all (is_kind l.to) (map (λ row. row.value) l.rows)
