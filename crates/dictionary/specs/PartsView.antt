-- A dictionary as it lies in memory.
use Rattle.dictionary.specs.AcceptedParts.{AcceptedParts}
use Rattle.dictionary.specs.declared.dictionary.Contents.{Contents}

abbrev pub parts_view : Contents → AcceptedParts
parts_view d = record { source = d.source; typed = d.typed; ranks = d.ranks.items; checks = d.checks.items }
