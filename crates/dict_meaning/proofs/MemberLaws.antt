-- The members that results name stand.
use Rattle.std.proofs.Common.{◌≡◌, ◌||◌, subst, ℕ, Bool, true, false, nat_eq, IsTrue, if◌then◌else◌, List, [], ◌∷◌, Option, Some, None, refl, sym, ap, ◌∙◌, unwrap_or}
use Rattle.std.specs.FinMap as map
use Rattle.std.specs.List.{list_all, list_any}
use Rattle.std.proofs.lemmas.Bool.{eqb-true}
use Rattle.fact_values.specs.declared.fact_type.FactType.TheVariants.{Collection}
use Rattle.fact_values.specs.declared.fact_type.FactType.TheVariants as types
use Rattle.fact_values.specs.declared.value.Value.{Value}
use Rattle.fact_values.specs.declared.value.Value.TheVariants.{Members, Item}
use Rattle.dict_source.specs.Dictionary.{Dictionary as Tree}
use Rattle.three_state.specs.declared.res.Res.{Res}
use Rattle.three_state.specs.declared.res.Res.TheVariants.{Complete, Placeholder, Incomplete, Fault}
use Rattle.evaluation.specs.Agreement.{IsIn}
use Rattle.evaluation.specs.Typed.{IsOfType, IsResOfType}
use Rattle.common_lemmas.proofs.Bools.{and_intro, both}
use Rattle.answers.specs.Answered.{Answered, list_of}
use Rattle.answers.proofs.StandLaws.{none_some}
use Rattle.dict_meaning.specs.Fits.{AnswersFit, domains, is_list}
use Rattle.dict_meaning.specs.Slots.{is_member, stands_at}
use Rattle.dict_meaning.proofs.ReadAgreement.{names, names_in}

-- one of those that all pass a test
pub one_of_them : (p : ℕ → Bool) (ms : List ℕ) → IsTrue (list_all p ms) → (m : ℕ) → IsIn ms m → IsTrue (p m)
one_of_them p [] h m i = absurd cc
one_of_them p (x ∷ ms) h m i =
    let parts = both (p x) (list_all p ms) h in
    by (nat_eq m x) refl i parts.0 (one_of_them p ms parts.1 m)
  where
    by : (b : Bool) → nat_eq m x ≡ b → IsTrue (b || list_any (nat_eq m) ms) → IsTrue (p x) → (IsIn ms m → IsTrue (p m)) → IsTrue (p m)
    by true e j k rest = subst (λ (n : ℕ). IsTrue (p n)) (sym (eqb-true m x e)) k
    by false e j k rest = rest j

-- ---- the members that a result of a Collection names, and the one that a result of an Item does

listed_value : (d : Tree) (a : Answered) (v : Value) (h : ℕ) → IsOfType (domains d a) v (types.Collection h) → (m : ℕ) → IsIn (names_in v) m → IsTrue (is_member a h m)
listed_value d a (Members ms) h k m i = one_of_them (is_member a h) ms k.1 m i
listed_value d a _ h k m i = absurd k

item_value : (d : Tree) (a : Answered) (v : Value) (h : ℕ) → IsOfType (domains d a) v (types.Item h) → (m : ℕ) → IsIn (names_in v) m → IsTrue (is_member a h m)
item_value d a (Item n) h k m i = one_of_them (is_member a h) (n ∷ []) (and_intro (is_member a h n) true k.1 refl) m i
item_value d a _ h k m i = absurd k

pub named_by_list : (d : Tree) (a : Answered) (r : Res) (h : ℕ) → IsResOfType (domains d a) r (types.Collection h) → (m : ℕ) → IsIn (names r) m → IsTrue (is_member a h m)
named_by_list d a (Complete v) h k m i = listed_value d a v h k m i
named_by_list d a (Placeholder v) h k m i = listed_value d a v h k m i
named_by_list d a Incomplete h k m i = absurd (cc)
named_by_list d a (Fault fault) h k m i = absurd (cc)

pub named_by_item : (d : Tree) (a : Answered) (r : Res) (h : ℕ) → IsResOfType (domains d a) r (types.Item h) → (m : ℕ) → IsIn (names r) m → IsTrue (is_member a h m)
named_by_item d a (Complete v) h k m i = item_value d a v h k m i
named_by_item d a (Placeholder v) h k m i = item_value d a v h k m i
named_by_item d a Incomplete h k m i = absurd (cc)
named_by_item d a (Fault fault) h k m i = absurd (cc)

-- ---- a member is none of no collection, and isn't 0

no_members : (d : Tree) (a : Answered) → AnswersFit d a → (o : Option (List ℕ)) → map.get a.lists 0 ≡ o → unwrap_or o [] ≡ []
no_members d a fits None e = refl
no_members d a fits (Some ms) e = absurd (let no : IsTrue (is_list d 0) = fits.lists 0 (rw e refl) in let f : false ≡ true = no in cc)

pub member_stands : (d : Tree) (a : Answered) → AnswersFit d a → (h m : ℕ) → IsTrue (is_member a h m) → IsTrue (stands_at a h m)
member_stands d a fits h m i = at (nat_eq h 0) refl
  where
    at : (b : Bool) → nat_eq h 0 ≡ b → IsTrue (if b then nat_eq m 0 else is_member a h m)
    at true e =
        absurd (
        let none : list_of a h ≡ [] = ap (list_of a) (eqb-true h 0 e) ∙ no_members d a fits (map.get a.lists 0) refl in
        let out : false ≡ true = sym (ap (list_any (nat_eq m)) none) ∙ i in
        cc
        )
    at false e = i

pub zero_is_none : (d : Tree) (a : Answered) → AnswersFit d a → (h : ℕ) → is_member a h 0 ≡ false
zero_is_none d a fits h = at (is_member a h 0) refl
  where
    at : (b : Bool) → is_member a h 0 ≡ b → b ≡ false
    at true i = absurd (none_some (map.get a.members 0) fits.from_one.zero (fits.well.listed h 0 i))
    at false i = refl
