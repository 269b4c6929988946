-- A table of relations, as contracts see it.
use Rattle.std.specs.Prelude.{ℕ, List, map}
use Rattle.fact_watch.specs.declared.relation.WatchTable.{WatchTable}

-- its relations in order, each by name and code
abbrev pub named_relations : {X : Type 0} {F : X → Type 0} {M : _} → WatchTable X F M → List (List ℕ × ℕ)
named_relations table = map {B = List ℕ × ℕ} (λ r. (r.name, r.code)) table.relations.items
