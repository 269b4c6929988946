-- Laws of the facts that paths name.
use Rattle.std.specs.Prelude.{◌≡◌, ◌↔◌, ℕ, List, Some, None}
use Rattle.fact_paths.specs.declared.fact_path.FactPath.{FactPath}
use Rattle.fact_paths.specs.declared.fact_path.FactPath.TheVariants as facts
use Rattle.fact_paths.specs.declared.use_path.UsePath.TheVariants as uses
use Rattle.dict_source.specs.Facts.{Fact}
use Rattle.dict_source.specs.Dictionary.{Dictionary}
use Rattle.dict_source.specs.Finding.{HasPath, IsFirst, IsNumber, find_path}
use Rattle.dict_source.specs.Targets.{collection_at, global_at, list_base_at, item_base_at, targets}

-- ---- finding

-- what is found is the first fact with the path
abbrev pub FindsTheFirst : Type 0
FindsTheFirst = (facts : List Fact) (path : FactPath) (n : ℕ) → (find_path facts path ≡ Some n) ↔ IsFirst facts path n

-- nothing is found exactly where no fact has the path
abbrev pub FindsNothing : Type 0
FindsNothing = (facts : List Fact) (path : FactPath) → (find_path facts path ≡ None) ↔ ((n : ℕ) → ¬ HasPath facts path n)

-- the first fact is one of them
abbrev pub FirstIsThere : Type 0
FirstIsThere = (facts : List Fact) (path : FactPath) (n : ℕ) → IsFirst facts path n → IsNumber facts n

-- ---- the rows of the table

-- `/N` names the fact `/N`
abbrev pub GlobalRow : Type 0
GlobalRow = (d : Dictionary) (fact base : ℕ) (n : List ℕ) → targets d fact base (uses.Global n) ≡ record { first = find_path d.facts (facts.Global n); second = None }

-- `../N`, in a fact of the members of `/c`, names `/c/*/N`
abbrev pub SiblingRow : Type 0
SiblingRow = (d : Dictionary) (fact base : ℕ) (c n : List ℕ) → collection_at d fact ≡ Some c → targets d fact base (uses.Sibling n) ≡ record { first = find_path d.facts (facts.Member c n); second = None }

-- `N`, under a condition over `/b`, names `/b/*/N`
abbrev pub InnerRow : Type 0
InnerRow = (d : Dictionary) (fact base : ℕ) (b n : List ℕ) → global_at d base ≡ Some b → targets d fact base (uses.Inner n) ≡ record { first = find_path d.facts (facts.Member b n); second = None }

-- `/N/*/M` names `/N` of type Collection(b), and then `/b/*/M`
abbrev pub EachRow : Type 0
EachRow = (d : Dictionary) (fact base t : ℕ) (n b m : List ℕ) → find_path d.facts (facts.Global n) ≡ Some t → list_base_at d t ≡ Some b → targets d fact base (uses.Each n m) ≡ record { first = Some t; second = find_path d.facts (facts.Member b m) }

-- `/N/M` names `/N` of type Item(b), and then `/b/*/M`
abbrev pub ThroughRow : Type 0
ThroughRow = (d : Dictionary) (fact base t : ℕ) (n b m : List ℕ) → find_path d.facts (facts.Global n) ≡ Some t → item_base_at d t ≡ Some b → targets d fact base (uses.Through n m) ≡ record { first = Some t; second = find_path d.facts (facts.Member b m) }

-- `../N/M`, in a fact of the members of `/c`, names `/c/*/N` of type Item(b), and then `/b/*/M`
abbrev pub SiblingThroughRow : Type 0
SiblingThroughRow = (d : Dictionary) (fact base t : ℕ) (c n b m : List ℕ) → collection_at d fact ≡ Some c → find_path d.facts (facts.Member c n) ≡ Some t → item_base_at d t ≡ Some b → targets d fact base (uses.SiblingThrough n m) ≡ record { first = Some t; second = find_path d.facts (facts.Member b m) }

-- outside of a member's fact `../N` and `../N/M` name nothing, and outside of a condition `N` names nothing
abbrev pub SiblingNowhere : Type 0
SiblingNowhere = (d : Dictionary) (fact base : ℕ) (n : List ℕ) → collection_at d fact ≡ None → targets d fact base (uses.Sibling n) ≡ record { first = None; second = None }

abbrev pub SiblingThroughNowhere : Type 0
SiblingThroughNowhere = (d : Dictionary) (fact base : ℕ) (n m : List ℕ) → collection_at d fact ≡ None → targets d fact base (uses.SiblingThrough n m) ≡ record { first = None; second = None }

abbrev pub InnerNowhere : Type 0
InnerNowhere = (d : Dictionary) (fact : ℕ) (n : List ℕ) → targets d fact 0 (uses.Inner n) ≡ record { first = None; second = None }
