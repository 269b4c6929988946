-- Worked examples: what some texts of each type are read as, and how values are printed.
use Rattle.std.proofs.Common.{◌≡◌, List, [], ◌∷◌, map, true, Some, None, refl}
use Rattle.std.specs.Prelude.{codes, pos, negsuc}
use Rattle.std.specs.Char.{encode_utf8}
use Rattle.std.specs.Fmt.{digits}
use Rattle.std.specs.Str.{chars, is_utf8}
use Rattle.fact_values.specs.Rationals.{gcd}
use Rattle.fact_values.specs.declared.fact_type.FactType.TheVariants as types
use Rattle.fact_values.specs.declared.value.Value.TheVariants as values
use Rattle.value_text.specs.Enums.{Listed}
use Rattle.value_text.specs.Values.{printed, value_at}

-- the options `single` and `married` of the list `status`
abbrev lists : List Listed
lists = record { name = codes "status"; options = codes "single" ∷ codes "married" ∷ [] } ∷ []

truth_values : map (value_at lists types.Boolean) (codes "true" ∷ codes "True" ∷ []) ≡ Some (values.Boolean true) ∷ None ∷ []
truth_values = refl

numbers : map (value_at lists types.Int) (codes "-0" ∷ codes "007" ∷ codes "-999999999999999" ∷ codes "0000000000000001" ∷ codes "-" ∷ [])
    ≡ Some (values.Int (pos 0)) ∷ Some (values.Int (pos 7)) ∷ Some (values.Int (negsuc 999999999999998)) ∷ None ∷ None ∷ []
numbers = refl

amounts : map (value_at lists types.Dollar) (codes "5" ∷ codes "-12.34" ∷ codes "-0.00" ∷ codes "1.5" ∷ codes "12345678901234" ∷ [])
    ≡ Some (values.Dollar (pos 500)) ∷ Some (values.Dollar (negsuc 1233)) ∷ Some (values.Dollar (pos 0)) ∷ None ∷ None ∷ []
amounts = refl

fractions : map (value_at lists types.Rational) (codes "-4/6" ∷ codes "5" ∷ codes "2000000000000/2" ∷ codes "1/1000000000001" ∷ codes "1/0" ∷ [])
    ≡ Some (values.Rational (record { num = negsuc 1; den = 3 })) ∷ Some (values.Rational (record { num = pos 5; den = 1 })) ∷ Some (values.Rational (record { num = pos 1000000000000; den = 1 })) ∷ None ∷ None ∷ []
unfolding gcd
fractions = refl

days : map (value_at lists types.Day) (codes "2024-02-29" ∷ codes "1970-01-01" ∷ codes "2023-02-29" ∷ codes "1799-12-31" ∷ codes "2024-2-9" ∷ [])
    ≡ Some (values.Day (pos 19782)) ∷ Some (values.Day (pos 0)) ∷ None ∷ None ∷ None ∷ []
days = refl

-- 194 133 is U+0085, a control character
texts : map (value_at lists types.Text) ([] ∷ codes "a b" ∷ (194 ∷ 133 ∷ []) ∷ (255 ∷ []) ∷ []) ≡ Some (values.Text []) ∷ Some (values.Text (codes "a b")) ∷ None ∷ None ∷ []
unfolding chars is_utf8 encode_utf8
texts = refl

options : map (value_at lists (types.Enum 0)) (codes "married" ∷ codes "marri" ∷ []) ≡ Some (values.Choice 0 1) ∷ None ∷ []
options = refl

printed_values : map (printed lists) (values.Int (negsuc 6) ∷ values.Dollar (negsuc 4) ∷ values.Rational (record { num = negsuc 1; den = 3 }) ∷ values.Choice 0 1 ∷ values.Members [] ∷ values.Members (1 ∷ 2 ∷ []) ∷ values.Item 3 ∷ [])
    ≡ codes "-7" ∷ codes "-0.05" ∷ codes "-2/3" ∷ codes "married" ∷ codes "[]" ∷ codes "[#1 #2]" ∷ codes "#3" ∷ []
unfolding digits
printed_values = refl

printed_days : map (printed lists) (values.Day (pos 19782) ∷ values.Day (negsuc 62090) ∷ []) ≡ codes "2024-02-29" ∷ codes "1800-01-01" ∷ []
printed_days = refl
