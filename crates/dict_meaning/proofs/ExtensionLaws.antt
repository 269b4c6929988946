-- Of answers that fit, the test over the slots that stand tells whether they extend others.
use Rattle.std.proofs.Common.{◌≡◌, ◌↔◌, ℕ, Bool, true, false, ◌&&◌, ◌||◌, IsTrue, List, [], ◌∷◌, Option, Some, None, unwrap_or, refl, sym, ap, subst, ◌∙◌}
use Rattle.std.specs.Prelude.{option_and_then}
use Rattle.std.specs.List.{list_all, list_any}
use Rattle.std.specs.FinMap as map
use Rattle.std.specs.Str.{bytes_eq}
use Rattle.std.proofs.lemmas.Slice.Eq.{bytes_eq-Decides}
use Rattle.fact_paths.specs.declared.fact_path.FactPath.{FactPath}
use Rattle.fact_paths.specs.declared.fact_path.FactPath.TheVariants as paths
use Rattle.fact_values.specs.declared.slot.Slot.{Slot}
use Rattle.fact_values.specs.declared.value.Value.{Value}
use Rattle.dict_source.specs.Facts.{Fact, Stated, writable_list}
use Rattle.dict_source.specs.Dictionary.{Dictionary as Tree, is_collection}
use Rattle.dict_source.specs.Finding.{fact_at}
use Rattle.dict_source.specs.Targets.{find_global, member_collection}
use Rattle.dict_rules.specs.NoCollection.{is_list as is_list_type}
use Rattle.dict_rules.specs.WrongPlace.{has_wrong_place, is_member_path, is_misplaced}
use Rattle.dict_rules.specs.Uses.{fact_has_use}
use Rattle.three_state.specs.Equality.{value_same}
use Rattle.three_state.proofs.EqualityLaws.{value_same-Decides}
use Rattle.common_lemmas.proofs.Bools.{and_intro, both, or_left}
use Rattle.answers.specs.Answered.{Answered, value_of}
use Rattle.answers.specs.declared.edit.Side.{Side}
use Rattle.answers.specs.declared.edit.Side.TheVariants.{Answer, Override}
use Rattle.dict_meaning.specs.Accepted.{Accepted, IsAccepted}
use Rattle.dict_meaning.specs.Extension.{Extends, both_same, extends, is_kept, keeps_given, same_override}
use Rattle.dict_meaning.specs.Fits.{AnswersFit, is_list, opens_of, takes}
use Rattle.dict_meaning.specs.Homes.{home}
use Rattle.evaluation.specs.Results.{slot}
use Rattle.dict_meaning.specs.Slots.{slot_same, standing, stands, stands_of}
use Rattle.dict_meaning.proofs.SlotLaws.{listed_stand, slot_same-equal}

-- ---- an open collection stands once

wrong_place : (d : Tree) (c : ℕ) (f : Fact) → IsTrue (is_list_type f.stated) → IsTrue (is_member_path f.path) → IsTrue (has_wrong_place d c f)
wrong_place d c f list member = or_left (is_list_type f.stated && is_member_path f.path) (fact_has_use (is_misplaced d c) d c f) (and_intro (is_list_type f.stated) (is_member_path f.path) list member)

collection_is_list : (stated : Stated) → IsTrue (is_collection stated) → IsTrue (is_list_type stated)
collection_is_list writable_list h = refl
collection_is_list _ h = absurd (cc)

no_collection : (path : Option FactPath) → (IsTrue (is_member_path path) → ⊥) → option_and_then member_collection path ≡ None
no_collection None h = refl
no_collection (Some (paths.Global n)) h = refl
no_collection (Some (paths.Member c n)) h = absurd (h refl)

-- of a fact that opens, none has a path of members
opens_once : (names : List (List ℕ)) (d : Accepted) → IsAccepted names d → (c : ℕ) (o : Option Fact) → fact_at d.tree.facts c ≡ o → IsTrue (opens_of o)
    → option_and_then (λ (f : Fact). option_and_then member_collection f.path) o ≡ None
opens_once names d accepted c None e h = absurd (cc)
opens_once names d accepted c (Some f) e h =
    no_collection f.path
    (λ member. accepted.typed.0.1.1.1.1.0 c (record { fact = f; is_there = e; passes = wrong_place d.tree c f (collection_is_list f.stated h) member }))

pub list_home : (names : List (List ℕ)) (d : Accepted) → IsAccepted names d → (c : ℕ) → IsTrue (is_list d.tree c) → home d.tree c ≡ 0
list_home names d accepted c h = ap (λ (o : Option (List ℕ)). unwrap_or (option_and_then (find_global d.tree) o) 0) (opens_once names d accepted c (fact_at d.tree.facts c) refl h)

stands_once : (a : Answered) (o : Option Fact) → IsTrue (opens_of o) → IsTrue (stands_of a 0 0 o)
stands_once a None h = h
stands_once a (Some f) h = refl

pub list_stands : (names : List (List ℕ)) (d : Accepted) → IsAccepted names d → (a : Answered) (c : ℕ) → IsTrue (is_list d.tree c) → IsTrue (stands d.tree a (slot c 0))
list_stands names d accepted a c h = rw (list_home names d accepted c h) (stands_once a (fact_at d.tree.facts c) h)

-- ---- tests over the slots that stand

test_at_by : (test : Slot → Bool) (s t : Slot) (ts : List Slot) (here : Bool) → slot_same s t ≡ here → IsTrue (here || list_any (slot_same s) ts) → IsTrue (test t) → (IsTrue (list_any (slot_same s) ts) → IsTrue (test s)) → IsTrue (test s)
test_at_by test s t ts true e i h rest = subst (λ (u : Slot). IsTrue (test u)) (sym (slot_same-equal s t e)) h
test_at_by test s t ts false e i h rest = rest i

test_at : (test : Slot → Bool) (ts : List Slot) → IsTrue (list_all test ts) → (s : Slot) → IsTrue (list_any (slot_same s) ts) → IsTrue (test s)
test_at test [] all s i = absurd (cc)
test_at test (t ∷ ts) all s i =
    let parts = both (test t) (list_all test ts) all in
    test_at_by test s t ts (slot_same s t) refl i parts.0 (test_at test ts parts.1 s)

test_all : (test : Slot → Bool) → ((s : Slot) → IsTrue (test s)) → (ts : List Slot) → IsTrue (list_all test ts)
test_all test h [] = refl
test_all test h (t ∷ ts) = and_intro (test t) (list_all test ts) (h t) (test_all test h ts)

test_standing : (d : Tree) (a : Answered) (test : Slot → Bool) → IsTrue (list_all test (standing d a)) → (s : Slot) → IsTrue (stands d a s) → IsTrue (test s)
test_standing d a test all s there = test_at test (standing d a) all s (listed_stand d a s ∙ there)

-- ---- what is there

pub equal_same : {A : Type 0} (same : A → A → Bool) → ((x y : A) → IsTrue (same x y) ↔ (x ≡ y)) → (o : Option A) → IsTrue (both_same same o o)
equal_same same tells None = refl
equal_same same tells (Some x) = (tells x x).1 refl

pub kept_equal : {A : Type 0} (same : A → A → Bool) → ((x y : A) → IsTrue (same x y) ↔ (x ≡ y)) → (o p : Option A) → IsTrue (is_kept same o p) → (x : A) → o ≡ Some x → p ≡ Some x
kept_equal same tells None p h x e = absurd (cc)
kept_equal same tells (Some w) (Some y) h x e = ap (λ z. Some z) (sym ((tells w y).0 h)) ∙ e
kept_equal same tells (Some w) None h x e = absurd (cc)

pub equal_kept : {A : Type 0} (same : A → A → Bool) → ((x y : A) → IsTrue (same x y) ↔ (x ≡ y)) → (o p : Option A) → ((x : A) → o ≡ Some x → p ≡ Some x) → IsTrue (is_kept same o p)
equal_kept same tells None p h = refl
equal_kept same tells (Some w) p h = rw (h w refl) ((tells w w).1 refl)

-- ---- the test tells

-- both are equal, or neither is there
pub same_option : {A : Type 0} (same : A → A → Bool) → ((x y : A) → same x y ≡ true → x ≡ y) → (x y : Option A) → both_same same x y ≡ true → x ≡ y
same_option same tells None None h = refl
same_option same tells (Some x) (Some y) h = ap (λ z. Some z) (tells x y h)
same_option same tells None (Some y) h = absurd (cc)
same_option same tells (Some x) None h = absurd (cc)

-- answers and overrides stand in slots that stand
pub is_placed : (d : Tree) (a : Answered) → AnswersFit d a → (side : Side) (s : Slot) (v : Value) → value_of side a s ≡ Some v → IsTrue (stands d a s)
is_placed d a fits side s v e = (both (stands d a s) (takes side d s.fact) (fits.placed side s (rw e refl))).0

same_overrides : (d : Tree) (a b : Answered) → AnswersFit d a → AnswersFit d b
    → IsTrue (list_all (same_override a b) (standing d a)) → IsTrue (list_all (same_override a b) (standing d b)) → (s : Slot) → value_of Override b s ≡ value_of Override a s
same_overrides d a b fa fb ha hb s = by (value_of Override a s) (value_of Override b s) refl refl
  where
    shown : IsTrue (same_override a b s) → value_of Override b s ≡ value_of Override a s
    shown h = sym (same_option value_same (λ v w. (value_same-Decides v w).0) (value_of Override a s) (value_of Override b s) h)

    by : (o p : Option Value) → value_of Override a s ≡ o → value_of Override b s ≡ p → value_of Override b s ≡ value_of Override a s
    by (Some v) p e k = shown (test_standing d a (same_override a b) ha s (is_placed d a fa Override s v e))
    by None (Some w) e k = shown (test_standing d b (same_override a b) hb s (is_placed d b fb Override s w k))
    by None None e k = k ∙ sym e

given_parts : (a b : Answered) (s : Slot) → IsTrue (keeps_given a b s) → IsTrue (is_kept value_same (value_of Answer a s) (value_of Answer b s)) × IsTrue (is_kept bytes_eq (map.get a.lists s.fact) (map.get b.lists s.fact))
given_parts a b s h = both (is_kept value_same (value_of Answer a s) (value_of Answer b s)) (is_kept bytes_eq (map.get a.lists s.fact) (map.get b.lists s.fact)) h

kept_answers : (d : Tree) (a b : Answered) → AnswersFit d a → IsTrue (list_all (keeps_given a b) (standing d a)) → (s : Slot) (v : Value) → value_of Answer a s ≡ Some v → value_of Answer b s ≡ Some v
kept_answers d a b fits h s v e =
    let shown = test_standing d a (keeps_given a b) h s (is_placed d a fits Answer s v e) in
    kept_equal value_same value_same-Decides (value_of Answer a s) (value_of Answer b s) (given_parts a b s shown).0 v e

kept_lists : (names : List (List ℕ)) (d : Accepted) → IsAccepted names d → (a b : Answered) → AnswersFit d.tree a → IsTrue (list_all (keeps_given a b) (standing d.tree a)) → (c : ℕ) (ms : List ℕ)
    → map.get a.lists c ≡ Some ms → map.get b.lists c ≡ Some ms
kept_lists names d accepted a b fits h c ms e =
    let there = list_stands names d accepted a c (fits.lists c (rw e refl)) in
    let shown = test_standing d.tree a (keeps_given a b) h (slot c 0) there in
    kept_equal bytes_eq bytes_eq-Decides (map.get a.lists c) (map.get b.lists c) (given_parts a b (slot c 0) shown).1 ms e

overrides_pass : (a b : Answered) → Extends a b → (s : Slot) → IsTrue (same_override a b s)
overrides_pass a b h s = rw (h.overrides s) (equal_same value_same value_same-Decides (value_of Override a s))

given_pass : (a b : Answered) → Extends a b → (s : Slot) → IsTrue (keeps_given a b s)
given_pass a b h s =
    and_intro (is_kept value_same (value_of Answer a s) (value_of Answer b s)) (is_kept bytes_eq (map.get a.lists s.fact) (map.get b.lists s.fact))
    (equal_kept value_same value_same-Decides (value_of Answer a s) (value_of Answer b s) (h.values s))
    (equal_kept bytes_eq bytes_eq-Decides (map.get a.lists s.fact) (map.get b.lists s.fact) (h.lists s.fact))

tells_extends : (names : List (List ℕ)) (d : Accepted) → IsAccepted names d → (a b : Answered) → AnswersFit d.tree a → AnswersFit d.tree b → IsTrue (extends d.tree a b) → Extends a b
unfolding extends
tells_extends names d accepted a b fa fb h =
    let before = list_all (same_override a b) (standing d.tree a) in
    let after = list_all (same_override a b) (standing d.tree b) in
    let parts = both (before && after) (list_all (keeps_given a b) (standing d.tree a)) h in
    let overrides = both before after parts.0 in
    record {
      overrides = same_overrides d.tree a b fa fb overrides.0 overrides.1;
      values = kept_answers d.tree a b fa parts.1;
      lists = kept_lists names d accepted a b fa parts.1;
    }

extends_passes : (d : Tree) (a b : Answered) → Extends a b → IsTrue (extends d a b)
unfolding extends
extends_passes d a b h =
    let before = list_all (same_override a b) (standing d a) in
    let after = list_all (same_override a b) (standing d b) in
    and_intro (before && after) (list_all (keeps_given a b) (standing d a))
    (and_intro before after (test_all (same_override a b) (overrides_pass a b h) (standing d a)) (test_all (same_override a b) (overrides_pass a b h) (standing d b)))
    (test_all (keeps_given a b) (given_pass a b h) (standing d a))

pub test_tells_extends : (names : List (List ℕ)) (d : Accepted) → IsAccepted names d → (a b : Answered) → AnswersFit d.tree a → AnswersFit d.tree b → IsTrue (extends d.tree a b) ↔ Extends a b
test_tells_extends names d accepted a b fa fb = (tells_extends names d accepted a b fa fb, extends_passes d.tree a b)
