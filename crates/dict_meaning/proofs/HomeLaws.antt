-- Paths of the facts of an accepted dictionary: each is there, and a member's fact has a collection.
use Rattle.std.proofs.Common.{◌≡◌, ℕ, zero, suc, Bool, true, false, List, Option, Some, None, is_none, refl, sym, ap, subst, ◌∙◌, arith}
use Rattle.std.specs.Prelude.{◌||◌, IsTrue, option_and_then, unwrap_or}
use Rattle.std.specs.List.{All}
use Rattle.std.proofs.lemmas.Bool.{not-false, or_parts, false_from_ne_true}
use Rattle.fact_paths.specs.Paths.{IsFactPath, SpellsFactPath, SpellsSlotPath}
use Rattle.fact_paths.specs.declared.fact_path.FactPath.{FactPath}
use Rattle.fact_paths.specs.declared.fact_path.FactPath.TheVariants.{Global, Member}
use Rattle.fact_paths.specs.declared.slot_path.SlotPath.{SlotPath}
use Rattle.fact_values.specs.declared.slot.Slot.{Slot}
use Rattle.dict_source.specs.Facts.{Fact}
use Rattle.dict_source.specs.Dictionary.{Dictionary as Tree}
use Rattle.dict_source.specs.Finding.{HasPath, IsFirst, IsNumber, fact_at}
use Rattle.dict_source.specs.Forms.{IsReadFrom, IsWellFormed}
use Rattle.dict_source.specs.Targets.{find_global, member_collection}
use Rattle.dict_source.proofs.FindingLaws.{find_path-first}
use Rattle.dict_rules.specs.FirstFact.{Passes}
use Rattle.dict_rules.specs.NoCollection.{lacks_own_list, names_list}
use Rattle.dict_rules.specs.Rules.{breaks}
use Rattle.dict_rules.specs.declared.rules.Rule.TheVariants as rules
use Rattle.dict_meaning.specs.Accepted.{Accepted, IsAccepted}
use Rattle.common_lemmas.proofs.Lists.{all_at, one_at}
use Rattle.dict_meaning.specs.Homes.{home}
use Rattle.dict_meaning.specs.SlotText.{IsSlot, slot_path, slot_path_of, slot_text, text_of_path}

-- ---- facts by number

pub all_facts : (P : Fact → Type 0) (facts : List Fact) (n : ℕ) (f : Fact) → All P facts → fact_at facts n ≡ Some f → P f
all_facts P facts zero f all e = absurd cc
all_facts P facts (suc i) f all e = all_at P facts i f all e

fact_there : (facts : List Fact) (n : ℕ) → IsNumber facts n → (f : Fact) × (fact_at facts n ≡ Some f)
fact_there facts zero is = absurd (omega (arith, is.0))
fact_there facts (suc i) is = one_at facts i (omega (arith, is.1))

-- ---- each fact has a path

keeps : (names : List (List ℕ)) (d : Tree) (test : ℕ → Fact → Bool) (fact : ℕ) (f : Fact) → ((n : ℕ) → ¬ Passes test d.facts n) → fact_at d.facts fact ≡ Some f → test fact f ≡ false
keeps names d test fact f none e = false_from_ne_true (test fact f) (λ h. none fact (record { fact = f; is_there = e; passes = h }))

has_path : (rest : Bool) (o : Option FactPath) → (is_none o || rest) ≡ false → (path : FactPath) × (o ≡ Some path)
has_path rest None h = absurd cc
has_path rest (Some path) h = (path, refl)

path_of : (names : List (List ℕ)) (d : Accepted) (fact : ℕ) (f : Fact) → IsAccepted names d → fact_at d.tree.facts fact ≡ Some f → (path : FactPath) × (f.path ≡ Some path)
path_of names d fact f is e = has_path _ f.path (keeps names d.tree (breaks d.tree names rules.BadPath) fact f is.typed.0.0 e)

read_path : (text : List ℕ) (o : Option FactPath) (path : FactPath) → o ≡ Some path → IsReadFrom SpellsFactPath text o → IsFactPath path
read_path text None path e h = absurd cc
read_path text (Some p) path e h = let same : p ≡ path = cc in subst IsFactPath same h.0

path_is_path : (names : List (List ℕ)) (d : Accepted) (fact : ℕ) (f : Fact) (path : FactPath) → IsAccepted names d → fact_at d.tree.facts fact ≡ Some f → f.path ≡ Some path → IsFactPath path
path_is_path names d fact f path is e p = read_path f.path_text f.path path p (all_facts (IsWellFormed d.tree.tables) d.tree.facts fact f is.valid.well_formed e).path

-- ---- homes

home_by : (d : Tree) (fact : ℕ) (f : Fact) (path : FactPath) → fact_at d.facts fact ≡ Some f → f.path ≡ Some path → home d fact ≡ unwrap_or (option_and_then (find_global d) (member_collection path)) 0
home_by d fact f path e p = rw (e, p) refl

pub global_has_none : (d : Tree) (fact : ℕ) (n : List ℕ) → HasPath d.facts (Global n) fact → home d fact ≡ 0
global_has_none d fact n h = home_by d fact h.fact (Global n) h.is_there h.path_is

list_found : (d : Tree) (o : Option ℕ) → names_list d o ≡ true → (t : ℕ) × (o ≡ Some t) × (names_list d (Some t) ≡ true)
list_found d None h = absurd cc
list_found d (Some t) h = (t, refl, h)

own_list : (d : Tree) (o : Option FactPath) (c n : List ℕ) → o ≡ Some (Member c n) → lacks_own_list d o ≡ false → names_list d (find_global d c) ≡ true
own_list d None c n e h = absurd cc
own_list d (Some (Global m)) c n e h = absurd cc
own_list d (Some (Member b m)) c n e h =
    let same : b ≡ c = cc in
    subst (λ (x : List ℕ). names_list d (find_global d x) ≡ true) same (not-false (names_list d (find_global d b)) h)

pub home_is_collection : (names : List (List ℕ)) (d : Accepted) (fact : ℕ) (c n : List ℕ) → IsAccepted names d → HasPath d.tree.facts (Member c n) fact
    → IsFirst d.tree.facts (Global c) (home d.tree fact) × IsTrue (names_list d.tree (Some (home d.tree fact)))
home_is_collection names d fact c n is h =
    let kept = keeps names d.tree (breaks d.tree names rules.NoCollection) fact h.fact is.typed.0.1.1.0 h.is_there in
    let named = own_list d.tree h.fact.path c n h.path_is (or_parts _ _ kept).0 in
    let found = list_found d.tree (find_global d.tree c) named in
    let here : home d.tree fact ≡ found.0 = home_by d.tree fact h.fact (Member c n) h.is_there h.path_is ∙ ap (λ (o : Option ℕ). unwrap_or o 0) found.1 in
    subst (λ (t : ℕ). IsFirst d.tree.facts (Global c) t × IsTrue (names_list d.tree (Some t))) (sym here) ((find_path-first d.tree.facts (Global c) found.0).0 found.1, found.2)

not_zero : (facts : List Fact) (path : FactPath) (t : ℕ) → HasPath facts path t → t ≡ 0 → ⊥
not_zero facts path zero h e = let none : None ≡ Some h.fact = h.is_there in cc
not_zero facts path (suc i) h e = absurd cc

-- ---- slots

-- a path that is there is the slot's, and the text is its text
spelled_at : (d : Tree) (s : Slot) (path : FactPath) (f : Fact) → fact_at d.facts s.fact ≡ Some f → f.path ≡ Some path → SpellsSlotPath (text_of_path (Some (slot_path_of s.member path))) (slot_path_of s.member path)
    → (p : SlotPath) × (slot_path d s ≡ Some p) × SpellsSlotPath (slot_text d s) p
spelled_at d s path f e p h =
    let is : slot_path d s ≡ Some (slot_path_of s.member path) = rw (e, p) refl in
    (slot_path_of s.member path, is, subst (λ (o : Option SlotPath). SpellsSlotPath (text_of_path o) (slot_path_of s.member path)) (sym is) h)

spelled_by : (names : List (List ℕ)) (d : Accepted) (s : Slot) (path : FactPath) (f : Fact) → IsAccepted names d → IsSlot d.tree s → fact_at d.tree.facts s.fact ≡ Some f → f.path ≡ Some path → IsFactPath path
    → SpellsSlotPath (text_of_path (Some (slot_path_of s.member path))) (slot_path_of s.member path)
spelled_by names d s (Global n) f is slot e p good = (good, refl)
spelled_by names d s (Member c n) f is slot e p good =
    let member : HasPath d.tree.facts (Member c n) s.fact = record { fact = f; is_there = e; path_is = p } in
    let collection = home_is_collection names d s.fact c n is member in
    let some : (s.member ≡ 0) → ⊥ = λ z. not_zero d.tree.facts (Global c) (home d.tree s.fact) collection.0.here (slot.once.0 z) in
    ((good.0, (omega (arith, some), slot.member), good.1), refl)

pub text_spells : (names : List (List ℕ)) (d : Accepted) (s : Slot) → IsAccepted names d → IsSlot d.tree s → (path : SlotPath) × (slot_path d.tree s ≡ Some path) × SpellsSlotPath (slot_text d.tree s) path
text_spells names d s is slot =
    let f = fact_there d.tree.facts s.fact slot.there in
    let path = path_of names d s.fact f.0 is f.1 in
    spelled_at d.tree s path.0 f.0 f.1 path.1 (spelled_by names d s path.0 f.0 is slot f.1 path.1 (path_is_path names d s.fact f.0 path.0 is f.1 path.1))
