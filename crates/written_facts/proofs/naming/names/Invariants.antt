-- Those so far are the first texts, and those that are left are names.
use Rattle.std.proofs.Common.{◌≡◌, IsTrue, drop, take}
use Rattle.std.specs.List.{list_all}
use Rattle.fact_paths.specs.Names.{is_name}
use Rattle.written_facts.specs.Options.{texts_view}
use Rattle.written_facts.proofs.naming.names.Given as goal

abbrev pub invariant-loop-text : goal.invariant-loop-text
invariant-loop-text l = record {
  made : l.list.items ≡ texts_view (take l.text-index l.texts);
  left : IsTrue (list_all is_name (texts_view (drop l.text-index l.texts)));
}
