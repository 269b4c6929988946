-- The enums of a dictionary that is read are lists of options, each under a name of its own.
use Rattle.std.proofs.Common.{◌≡◌, ℕ, suc, ◌≤◌, Bool, true, false, IsTrue, List, [], ◌∷◌, length, Option, Some, None, refl, sym, subst, arith, ltb-false, lt-ltb}
use Rattle.std.specs.Prelude.{codes, count_by, nat_lt, sum_by}
use Rattle.std.specs.List.{list_all, list_any}
use Rattle.serde_json.specs.Data.{Data, Items, no_items, item}
use Rattle.serde_json.specs.Find.{get}
use Rattle.common_lemmas.proofs.Bools.{and_intro, or_neither}
use Rattle.value_text.specs.Enums.{AreLists, Listed, is_listed}
use Rattle.dict_tree.specs.DictJson.{SpellEnums, SpellsDictionary, SpellsEnum}
use Rattle.dict_source.specs.Dictionary.{Dictionary, IsWithinLimits, is_collection, number_from}
use Rattle.fact_json.specs.FactJson.{AreSpelled}
use Rattle.dict_source.specs.Facts.{fact_size}
use Rattle.dict_tree.proofs.EnumJsonLaws.{some_there}

-- the first test of which there are too many isn't the first
none_passed : (n : ℕ) (b : Bool) (bs : List Bool) → number_from (λ c. c) n (b ∷ bs) ≡ None → (b ≡ false) × (number_from (λ c. c) (suc n) bs ≡ None)
none_passed n true bs none = absurd cc
none_passed n false bs none = (refl, none)

-- of six tests, the fourth and the fifth
none_of_six : (a b c d e f : Bool) → number_from (λ g. g) 1 (a ∷ b ∷ c ∷ d ∷ e ∷ f ∷ []) ≡ None → (d ≡ false) × (e ≡ false)
none_of_six a b c d e f none =
    let one = none_passed 1 a (b ∷ c ∷ d ∷ e ∷ f ∷ []) none in
    let two = none_passed 2 b (c ∷ d ∷ e ∷ f ∷ []) one.1 in
    let three = none_passed 3 c (d ∷ e ∷ f ∷ []) two.1 in
    let four = none_passed 4 d (e ∷ f ∷ []) three.1 in
    let five = none_passed 5 e (f ∷ []) four.1 in
    (four.0, five.0)

few_lists : (d : Dictionary) → IsWithinLimits d → (nat_lt 200 (length d.enums) ≡ false) × (list_any (λ e. nat_lt 100 (length e.options)) d.enums ≡ false)
few_lists d is =
    none_of_six (nat_lt 2000 (length d.facts)) (nat_lt 40000 (sum_by fact_size d.facts)) (nat_lt 32 (count_by (λ f. is_collection f.stated) d.facts)) (nat_lt 200 (length d.enums))
    (list_any (λ e. nat_lt 100 (length e.options)) d.enums) (list_any (λ f. nat_lt 8 (length f.limits)) d.facts) is.many

one_listed : (d : Data) (e : Listed) → SpellsEnum d e → nat_lt 100 (length e.options) ≡ false → IsTrue (is_listed e)
one_listed d e is few =
    let short : length e.options ≤ 100 = ltb-false 100 (length e.options) few in
    and_intro _ _ (lt-ltb (length e.options) 4294967296 (omega (arith, short)))
    (and_intro _ _ is.named (and_intro _ _ (some_there e.options is.some) (and_intro _ _ is.all_named is.distinct)))

all_listed : (items : Items) (es : List Listed) → AreSpelled SpellsEnum items es → list_any (λ e. nat_lt 100 (length e.options)) es ≡ false → IsTrue (list_all is_listed es)
all_listed no_items [] are few = refl
all_listed (item d ds) (e ∷ es) are few =
    let parts = or_neither (nat_lt 100 (length e.options)) (list_any (λ e. nat_lt 100 (length e.options)) es) few in
    and_intro _ _ (one_listed d e are.0 parts.0) (all_listed ds es are.1 parts.1)
all_listed no_items (e ∷ es) are few = absurd are
all_listed (item d ds) [] are few = absurd are

spelled_lists : (o : Option Data) (es : List Listed) → SpellEnums o es → nat_lt 200 (length es) ≡ false → list_any (λ e. nat_lt 100 (length e.options)) es ≡ false → AreLists es
spelled_lists None es are many few = subst AreLists (sym are) (record { few = omega arith; distinct = refl; listed = refl })
spelled_lists (Some d) es are many few = record {
  few = let short : length es ≤ 200 = ltb-false 200 (length es) many in omega (arith, short);
  distinct = are.3;
  listed = all_listed are.0 es are.2 few;
}

pub read_lists : (d : Data) (dict : Dictionary) → SpellsDictionary d dict → IsWithinLimits dict → AreLists dict.enums
read_lists d dict is within = let few = few_lists dict within in spelled_lists (get (codes "enums") d) dict.enums is.top.enums few.0 few.1
