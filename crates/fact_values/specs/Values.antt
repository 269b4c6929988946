-- Values of all types: which have an order, and which order it is.
use Rattle.std.specs.Prelude.{pos, ◌*ℤ◌, Bool, true, false, IsTrue}
use Rattle.std.specs.Ordering.{int_cmp}
use Rattle.std.specs.declared.cmp.Ordering.{Ordering}
use Rattle.std.specs.declared.cmp.Ordering.TheVariants.{Equal}
use Rattle.fact_values.specs.declared.value.Value.{Value}
use Rattle.fact_values.specs.declared.value.Value.TheVariants.{Int, Dollar, Rational, Day, Text, Members}
use Rattle.fact_values.specs.Rationals.{Ratio}

-- of all values only texts and lists of members hold memory
abbrev pub holds_memory : Value → Bool
holds_memory (Text _) = true
holds_memory (Members _) = true
holds_memory _ = false

abbrev pub HoldsMemory : Value → Type 0
HoldsMemory v = IsTrue (holds_memory v)

-- the order of two fractions: both over the product of the denominators, which are above 0
abbrev pub ratio_cmp : Ratio → Ratio → Ordering
ratio_cmp a b = int_cmp (a.num *ℤ pos b.den) (b.num *ℤ pos a.den)

-- two whole numbers, two amounts, two fractions or two days
abbrev pub AreOrdered : Value → Value → Type 0
AreOrdered (Int a) (Int b) = Unit {0}
AreOrdered (Dollar a) (Dollar b) = Unit {0}
AreOrdered (Rational a) (Rational b) = Unit {0}
AreOrdered (Day a) (Day b) = Unit {0}
AreOrdered _ _ = ⊥

-- the order of two such values as numbers
abbrev pub order_of : Value → Value → Ordering
order_of (Int a) (Int b) = int_cmp a b
order_of (Dollar a) (Dollar b) = int_cmp a b
order_of (Rational a) (Rational b) = ratio_cmp a b
order_of (Day a) (Day b) = int_cmp a b
order_of _ _ = Equal
