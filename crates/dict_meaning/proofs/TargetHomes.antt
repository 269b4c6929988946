-- Where the slots of a target are, and what the base of a condition names.
use Rattle.std.proofs.Common.{◌≡◌, ℕ, List, Option, Some, None, refl, sym, ap, ◌∙◌, unwrap_or}
use Rattle.std.specs.Prelude.{option_and_then}
use Rattle.fact_paths.specs.declared.fact_path.FactPath.{FactPath}
use Rattle.fact_paths.specs.declared.fact_path.FactPath.TheVariants as facts
use Rattle.dict_source.specs.Facts.{Fact}
use Rattle.dict_source.specs.Dictionary.{Dictionary as Tree}
use Rattle.dict_source.specs.Finding.{HasPath, fact_at, find_path}
use Rattle.dict_source.specs.Targets.{collection_at, find_global, find_member, global_at, global_name, member_collection}
use Rattle.dict_source.proofs.FindingLaws.{find_path-first}
use Rattle.node_types.specs.StatedTypes.{base_number}
use Rattle.dict_meaning.specs.Homes.{home}

-- ---- a fact that is found by its path

pub found : (d : Tree) (p : FactPath) (n : ℕ) → find_path d.facts p ≡ Some n → HasPath d.facts p n
found d p n e = ((find_path-first d.facts p n).0 e).here

pub collection_found : (d : Tree) (p : FactPath) (n : ℕ) → HasPath d.facts p n → collection_at d n ≡ member_collection p
collection_found d p n h = ap (option_and_then (λ (f : Fact). option_and_then member_collection f.path)) h.is_there ∙ ap (option_and_then member_collection) h.path_is

pub global_found : (d : Tree) (p : FactPath) (n : ℕ) → HasPath d.facts p n → global_at d n ≡ global_name p
global_found d p n h = ap (option_and_then (λ (f : Fact). option_and_then global_name f.path)) h.is_there ∙ ap (option_and_then global_name) h.path_is

-- the slots of `/b/*/N` are at the members of `/b`
pub member_home : (d : Tree) (name : List ℕ) (base : Option (List ℕ)) (n : ℕ) → find_member d name base ≡ Some n → home d n ≡ base_number d base
member_home d name None n e = absurd (cc)
member_home d name (Some b) n e = ap (base_number d) (collection_found d (facts.Member b name) n (found d (facts.Member b name) n e))

pub member_there : (d : Tree) (name : List ℕ) (base : Option (List ℕ)) (n : ℕ) → find_member d name base ≡ Some n → (f : Fact) × (fact_at d.facts n ≡ Some f)
member_there d name None n e = absurd (cc)
member_there d name (Some b) n e = let h = found d (facts.Member b name) n e in (h.fact, h.is_there)

pub global_there : (d : Tree) (name : List ℕ) (n : ℕ) → find_global d name ≡ Some n → (f : Fact) × (fact_at d.facts n ≡ Some f)
global_there d name n e = let h = found d (facts.Global name) n e in (h.fact, h.is_there)

-- ---- the base of a condition

-- where the base is the path of a fact, it is the one that was looked for
pub base_named : (d : Tree) (base : Option (List ℕ)) (c : List ℕ) → global_at d (base_number d base) ≡ Some c → base ≡ Some c
base_named d None c h = absurd (let none : None ≡ Some c = h in cc)
base_named d (Some b) c h = at (find_global d b) refl h
  where
    at : (o : Option ℕ) → find_global d b ≡ o → global_at d (unwrap_or o 0) ≡ Some c → Some b ≡ Some c
    at None e h = absurd (let none : None ≡ Some c = h in cc)
    at (Some n) e h = sym (global_found d (facts.Global b) n (found d (facts.Global b) n e)) ∙ h
