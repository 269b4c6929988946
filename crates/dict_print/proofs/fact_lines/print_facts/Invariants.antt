use Rattle.std.proofs.Common.{◌≡◌, ◌++◌, drop, map}
use Rattle.std.specs.Prelude.{string_bytes}
use Rattle.dict_source.specs.Facts.{fact_view}
use Rattle.dict_print.specs.FactsText.{lines_of}
use Rattle.dict_print.proofs.fact_lines.print_facts.Given as goal

-- the lines so far and those of what is left are all
abbrev pub invariant-loop-fact : goal.invariant-loop-fact
invariant-loop-fact l = string_bytes l.out ++ lines_of (map fact_view (drop l.fact-index l.facts)) ≡ lines_of (map fact_view l.facts)
