-- The fact that a path names: its number, its home, and where its slot stands.
use Rattle.std.proofs.Common.{◌≡◌, ℕ, Bool, true, false, not, nat_eq, if◌then◌else◌, IsTrue, List, [], Option, Some, None, IsSome, refl, sym, ap, ◌∙◌, subst}
use Rattle.std.specs.Prelude.{option_and_then, unwrap_or}
use Rattle.std.specs.List.{list_any}
use Rattle.std.specs.FinMap as map
use Rattle.std.proofs.lemmas.Bool.{eqb-true}
use Rattle.fact_paths.specs.declared.slot_path.SlotPath.{SlotPath}
use Rattle.fact_paths.specs.declared.slot_path.SlotPath.TheVariants.{Global, Member}
use Rattle.dict_source.specs.Dictionary.{Dictionary as Tree}
use Rattle.dict_source.specs.Finding.{HasPath, IsNumber}
use Rattle.dict_source.specs.Targets.{collection_at, find_global, member_collection}
use Rattle.dict_source.proofs.FindingLaws.{find_path-first, first_is_there}
use Rattle.answers.specs.Answered.{Answered}
use Rattle.dict_meaning.specs.Fits.{AnswersFit, is_list}
use Rattle.dict_meaning.specs.Homes.{home}
use Rattle.evaluation.specs.Results.{slot}
use Rattle.dict_meaning.specs.Slots.{is_member, stands, stands_at, stands_of}
use Rattle.graph_session.specs.Naming.{lacks_member, member_of, named_fact, path_of}

-- the collection of a member's path: 0 of another
abbrev base_of : Tree → SlotPath → ℕ
base_of d (Global n) = 0
base_of d (Member c k n) = unwrap_or (find_global d c) 0

pub fact_found : (d : Tree) (path : SlotPath) (n : ℕ) → named_fact d path ≡ Some n → HasPath d.facts (path_of path) n
fact_found d path n e = ((find_path-first d.facts (path_of path) n).0 e).here

-- it is one of the facts
pub found_number : (d : Tree) (path : SlotPath) (n : ℕ) → named_fact d path ≡ Some n → IsNumber d.facts n
found_number d path n e = first_is_there d.facts (path_of path) n ((find_path-first d.facts (path_of path) n).0 e)

collection_found : (d : Tree) (path : SlotPath) (n : ℕ) → named_fact d path ≡ Some n → collection_at d n ≡ member_collection (path_of path)
collection_found d path n e =
    let has = fact_found d path n e in
    ap (option_and_then (λ f. option_and_then member_collection f.path)) has.is_there ∙ ap (option_and_then member_collection) has.path_is

base_home : (d : Tree) (path : SlotPath) → unwrap_or (option_and_then (find_global d) (member_collection (path_of path))) 0 ≡ base_of d path
base_home d (Global n) = refl
base_home d (Member c k n) = refl

found_home : (d : Tree) (path : SlotPath) (n : ℕ) → named_fact d path ≡ Some n → home d n ≡ base_of d path
found_home d path n e = ap (λ o. unwrap_or (option_and_then (find_global d) o) 0) (collection_found d path n e) ∙ base_home d path

-- the home of a fact of members is the path's collection
pub member_home : (d : Tree) (c m : List ℕ) (k n : ℕ) → named_fact d (Member c k m) ≡ Some n → home d n ≡ unwrap_or (find_global d c) 0
member_home d c m k n e = found_home d (Member c k m) n e

-- ---- where the slot stands

-- no list is kept under 0
no_member : (d : Tree) (a : Answered) (k : ℕ) → AnswersFit d a → is_member a 0 k ≡ true → ⊥
no_member d a k fit h = at (map.get a.lists 0) refl h
  where
    at : (o : Option (List ℕ)) → map.get a.lists 0 ≡ o → list_any (nat_eq k) (unwrap_or o []) ≡ true → ⊥
    at None e h = cc
    at (Some xs) e h = let listed : IsTrue (is_list d 0) = fit.lists 0 (subst IsSome (sym e) refl) in cc

stands_by : (d : Tree) (a : Answered) (path : SlotPath) → AnswersFit d a → lacks_member d a path ≡ false → stands_at a (base_of d path) (member_of path) ≡ true
stands_by d a (Global n) fit h = refl
stands_by d a (Member c k n) fit h = at (nat_eq (base_of d (Member c k n)) 0) refl
  where
    here : (b : Bool) → is_member a (base_of d (Member c k n)) k ≡ b → not b ≡ false → b ≡ true
    here true e h = refl
    here false e h = absurd cc

    in_list : is_member a (base_of d (Member c k n)) k ≡ true
    in_list = here (is_member a (base_of d (Member c k n)) k) refl h

    at : (b : Bool) → nat_eq (base_of d (Member c k n)) 0 ≡ b → (if b then nat_eq k 0 else is_member a (base_of d (Member c k n)) k) ≡ true
    at false e = in_list
    at true e = absurd (no_member d a k fit (ap (λ (b : ℕ). is_member a b k) (sym (eqb-true (base_of d (Member c k n)) 0 e)) ∙ in_list))

-- where the path's member is in its collection, the slot stands
pub named_stands : (d : Tree) (a : Answered) (path : SlotPath) (n : ℕ) → AnswersFit d a → named_fact d path ≡ Some n → lacks_member d a path ≡ false → IsTrue (stands d a (slot n (member_of path)))
named_stands d a path n fit e h =
    let has = fact_found d path n e in
    ap (stands_of a (home d n) (member_of path)) has.is_there
    ∙ ap (λ (b : ℕ). stands_at a b (member_of path)) (found_home d path n e)
    ∙ stands_by d a path fit h
