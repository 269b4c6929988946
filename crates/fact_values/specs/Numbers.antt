-- Products and quotients: the exact fraction, rounded where the result is an amount, and tested once against the range.
use Rattle.std.specs.Prelude.{◌≡◌, ℕ, zero, suc, ◌*◌, ℤ, pos, negsuc, neg_ℤ, ◌*ℤ◌, Result, Ok, Err, if◌then◌else◌}
use Rattle.fact_values.specs.declared.fault.ValueFault.{ValueFault}
use Rattle.fact_values.specs.declared.fault.ValueFault.TheVariants.{Overflow, ZeroDivide}
use Rattle.fact_values.specs.declared.num.Num.{Num}
use Rattle.fact_values.specs.declared.num.Num.TheVariants.{Int, Dollar, Rational}
use Rattle.fact_values.specs.Range.{is_in_range}
use Rattle.fact_values.specs.Rationals.{Ratio, checked_lowest, checked_ratio}
use Rattle.fact_values.specs.Rounding.{rounded}

-- ---- which pairs have a product and a quotient

-- all but two amounts
abbrev pub IsMultiplied : Num → Num → Type 0
IsMultiplied (Dollar a) (Dollar b) = ⊥
IsMultiplied a b = Unit {0}

-- two of one kind, and an amount by any number
abbrev pub IsDivided : Num → Num → Type 0
IsDivided (Int a) (Int b) = Unit {0}
IsDivided (Rational a) (Rational b) = Unit {0}
IsDivided (Dollar a) b = Unit {0}
IsDivided a b = ⊥

-- ---- results

abbrev pub checked_int : ℤ → Result Num ValueFault
checked_int n = if is_in_range n then Ok (Int n) else Err Overflow

-- of cents
abbrev pub checked_dollar : ℤ → Result Num ValueFault
checked_dollar cents = if is_in_range cents then Ok (Dollar cents) else Err Overflow

abbrev pub as_rational : Result Ratio ValueFault → Result Num ValueFault
as_rational (Ok q) = Ok (Rational q)
as_rational (Err fault) = Err fault

-- n over d as a fraction in lowest terms, for a d that is not 0
abbrev pub checked_rational : ℤ → ℕ → Result Num ValueFault
checked_rational n d = as_rational (checked_lowest n d)

-- n over d as an amount, rounded to the cent
abbrev pub rounded_quotient : ℤ → ℤ → Result Num ValueFault
rounded_quotient n (pos zero) = Err ZeroDivide
rounded_quotient n (pos (suc d)) = checked_dollar (rounded n (suc d))
rounded_quotient n (negsuc d) = checked_dollar (rounded (neg_ℤ n) (suc d))

-- ---- the operations. What they give for other pairs says nothing

abbrev pub product : Num → Num → Result Num ValueFault
product (Int a) (Int b) = checked_int (a *ℤ b)
product (Int a) (Dollar b) = checked_dollar (a *ℤ b)
product (Int a) (Rational b) = checked_rational (a *ℤ b.num) b.den
product (Dollar a) (Int b) = checked_dollar (a *ℤ b)
product (Dollar a) (Dollar b) = Err Overflow
product (Dollar a) (Rational b) = checked_dollar (rounded (a *ℤ b.num) b.den)
product (Rational a) (Int b) = checked_rational (a.num *ℤ b) a.den
product (Rational a) (Dollar b) = checked_dollar (rounded (a.num *ℤ b) a.den)
product (Rational a) (Rational b) = checked_rational (a.num *ℤ b.num) (a.den * b.den)

abbrev pub quotient : Num → Num → Result Num ValueFault
quotient (Int a) (Int b) = as_rational (checked_ratio a b)
quotient (Int a) b = Err ZeroDivide
quotient (Dollar a) (Int b) = rounded_quotient a b
quotient (Dollar a) (Dollar b) = as_rational (checked_ratio a b)
quotient (Dollar a) (Rational b) = rounded_quotient (a *ℤ pos b.den) b.num
quotient (Rational a) (Rational b) = as_rational (checked_ratio (a.num *ℤ pos b.den) (b.num *ℤ pos a.den))
quotient (Rational a) b = Err ZeroDivide

-- the divisor is zero
abbrev pub IsZero : Num → Type 0
IsZero (Int n) = n ≡ pos 0
IsZero (Dollar cents) = cents ≡ pos 0
IsZero (Rational q) = q.num ≡ pos 0
