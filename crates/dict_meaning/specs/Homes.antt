-- Where a fact's slots are: once, or at each member of a collection.
use Rattle.std.specs.Prelude.{◌≡◌, ℕ, IsTrue, List, map, Some, option_and_then, unwrap_or}
use Rattle.fact_paths.specs.declared.fact_path.FactPath.TheVariants.{Global, Member}
use Rattle.dict_source.specs.Facts.{Fact}
use Rattle.dict_source.specs.Dictionary.{Dictionary as Tree}
use Rattle.dict_source.specs.Finding.{HasPath, IsFirst}
use Rattle.dict_source.specs.Targets.{collection_at, find_global, member_collection}
use Rattle.dict_rules.specs.NoCollection.{names_list}
use Rattle.dict_meaning.specs.Accepted.{Accepted, IsAccepted}

-- the fact of the collection whose members have the fact: 0 for a global fact
abbrev pub home : Tree → ℕ → ℕ
home d fact = unwrap_or (option_and_then (find_global d) (collection_at d fact)) 0

-- ---- the same of all facts

abbrev pub fact_home : Tree → Fact → ℕ
fact_home d f = unwrap_or (option_and_then (find_global d) (option_and_then member_collection f.path)) 0

abbrev pub homes : Tree → List ℕ
homes d = map (fact_home d) d.facts

-- ---- laws

abbrev pub GlobalHasNoHome : Type 0
GlobalHasNoHome = (d : Tree) (fact : ℕ) (n : List ℕ) → HasPath d.facts (Global n) fact → home d fact ≡ 0

-- the home of a fact `/c/*/n` is the fact `/c`, which is a writable collection
abbrev pub HomeIsCollection : Type 0
HomeIsCollection = (names : List (List ℕ)) (d : Accepted) (fact : ℕ) (c n : List ℕ) → IsAccepted names d → HasPath d.tree.facts (Member c n) fact
    → IsFirst d.tree.facts (Global c) (home d.tree fact) × IsTrue (names_list d.tree (Some (home d.tree fact)))
