use Rattle.std.proofs.Common.{◌≡◌, drop, map}
use Rattle.std.specs.List.{list_any}
use Rattle.dict_source.specs.Facts.{fact_view}
use Rattle.fact_json.specs.Profile.{fact_uses_law}
use Rattle.fact_json.proofs.profile.some_uses_law.Given as goal

abbrev pub invariant-loop-fact : goal.invariant-loop-fact
invariant-loop-fact l = list_any fact_uses_law (map fact_view (drop l.fact-index l.facts)) ≡ list_any fact_uses_law (map fact_view l.facts)
