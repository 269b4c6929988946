-- A table of checks, as contracts see it.
use Rattle.std.specs.Prelude.{ℕ, List, map}
use Rattle.text_checks.specs.declared.check.CheckTable.{CheckTable}

-- its checks in order, each by name and code
abbrev pub named_checks : {X : Type 0} {F : X → Type 0} {M : _} → CheckTable X F M → List (List ℕ × ℕ)
named_checks table = map {B = List ℕ × ℕ} (λ c. (c.name, c.code)) table.checks.items

-- the names of its checks in order
abbrev pub check_names : {X : Type 0} {F : X → Type 0} {M : _} → CheckTable X F M → List (List ℕ)
check_names table = map {B = List ℕ} (λ c. c.name) table.checks.items
