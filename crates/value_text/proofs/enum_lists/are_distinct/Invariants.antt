-- The names from here on repeat none exactly where all repeat none, and those before are names.
use Rattle.std.proofs.Common.{◌≡◌, drop, take, true}
use Rattle.std.specs.List.{list_all}
use Rattle.fact_paths.specs.Names.{is_name}
use Rattle.value_text.specs.Enums.{are_distinct as distinct}
use Rattle.value_text.proofs.enum_lists.are_distinct.Given as goal

abbrev pub invariant-loop-i : goal.invariant-loop-i
invariant-loop-i l = record {
  rest : distinct (drop l.i l.names) ≡ distinct l.names;
  names : list_all is_name (take l.i l.names) ≡ true;
}
