-- Types that are the same are equal.
use Rattle.std.proofs.Common.{◌≡◌, true, refl, ap}
use Rattle.common_lemmas.proofs.Numbers.{equal_number, same_number}
use Rattle.fact_values.specs.declared.fact_type.FactType.{FactType}
use Rattle.fact_values.specs.declared.fact_type.FactType.TheVariants.{Boolean, Int, Dollar, Rational, Day, Text, Enum, Collection, Item}
use Rattle.dict_source.specs.OperandTypes.{same_type}

pub same_itself : (t : FactType) → same_type t t ≡ true
same_itself (Enum a) = equal_number a
same_itself (Collection a) = equal_number a
same_itself (Item a) = equal_number a
same_itself _ = refl

pub same_is : (t u : FactType) → same_type t u ≡ true → t ≡ u
same_is Boolean Boolean e = refl
same_is Int Int e = refl
same_is Dollar Dollar e = refl
same_is Rational Rational e = refl
same_is Day Day e = refl
same_is Text Text e = refl
same_is (Enum a) (Enum b) e = ap Enum (same_number a b e)
same_is (Collection a) (Collection b) e = ap Collection (same_number a b e)
same_is (Item a) (Item b) e = ap Item (same_number a b e)
same_is _ _ e = absurd cc
