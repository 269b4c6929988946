-- What the tables of a year give a household. Source: Publication 501 and the instructions of Form 1040 for the year.
use Rattle.std.specs.Prelude.{ℕ, ◌+◌, ◌*◌, ◌-◌, ℤ, pos, ◌+ℤ◌, ◌-ℤ◌, ◌*ℤ◌, int_lt, Bool, true, false, not, ◌&&◌, ◌||◌, if◌then◌else◌, List, map, filter}
use Rattle.fact_values.specs.Days.{number_of, year_of}
use Rattle.tax_2023.specs.Household.{Cents, DayNumber, Dependent, Household, Status, single, separately, jointly, surviving_spouse, head_of_household}
use Rattle.tax_2023.specs.Years.{Year}

-- ---- filing status

unfoldable pub is_joint : Household → Bool
is_joint h = h.married && h.file_jointly

unfoldable pub is_unmarried : Household → Bool
is_unmarried h = not h.married || h.considered_unmarried

-- the spouse died in one of the two years before, and the filer keeps a home for a dependent child
unfoldable pub is_surviving_spouse : Household → Bool
is_surviving_spouse h = not h.married && h.spouse_died && not h.remarried && h.child_in_home && h.paid_half_of_home

unfoldable pub is_head_of_household : Household → Bool
is_head_of_household h = is_unmarried h && h.paid_half_of_home && h.qualifying_person

unfoldable pub status : Household → Status
status h =
    if is_joint h then jointly
    else if is_surviving_spouse h then surviving_spouse
    else if is_head_of_household h then head_of_household
    else if h.married then separately
    else single

-- ---- ages

-- an age is reached by the first of January of a year: who was born no later than that day so many years before
abbrev pub has_reached : ℕ → ℕ → DayNumber → Bool
has_reached age year born = not (int_lt (number_of (pos (year - age)) (pos 1) (pos 1)) born)

-- 65 or older: the age is reached by the first of January after the year
unfoldable pub is_old : Year → DayNumber → Bool
is_old y born = has_reached 65 (y.year + 1) born

-- the age that is reached in the year
abbrev pub age_in : Year → DayNumber → ℤ
age_in y born = pos y.year -ℤ year_of born

abbrev pub is_later : DayNumber → DayNumber → Bool
is_later a b = int_lt b a

-- ---- the standard deduction

abbrev pub one_if : Bool → ℕ
one_if true = 1
one_if false = 0

-- 65 or older, and blind: of the filer, and on a joint return of the spouse
unfoldable pub boxes : Year → Household → ℕ
boxes y h =
    one_if (is_old y h.date_of_birth) + one_if h.blind
    + one_if (is_joint h && is_old y h.spouse_date_of_birth) + one_if (is_joint h && h.spouse_blind)

abbrev pub cents : ℕ → Cents
cents dollars = pos (dollars * 100)

abbrev pub greater_of : Cents → Cents → Cents
greater_of a b = if int_lt a b then b else a

abbrev pub lesser_of : Cents → Cents → Cents
lesser_of a b = if int_lt b a then b else a

abbrev pub basic_amount : Year → Household → Cents
basic_amount y h = cents (y.basic (status h))

abbrev pub box_amount : Year → Household → Cents
box_amount y h = cents (y.box (status h))

-- of a filer who can be claimed, without boxes
abbrev pub claimed_amount : Year → Household → Cents
claimed_amount y h = lesser_of (basic_amount y h) (greater_of (cents y.claimed_at_least) (h.earned_income +ℤ cents y.claimed_above_earned))

abbrev pub is_separate : Status → Bool
is_separate separately = true
is_separate _ = false

unfoldable pub deduction : Year → Household → Cents
deduction y h =
    if is_separate (status h) && h.spouse_itemizes then pos 0
    else (if h.can_be_claimed then claimed_amount y h else basic_amount y h) +ℤ box_amount y h *ℤ pos (boxes y h)

unfoldable pub taxable_income : Year → Household → Cents
taxable_income y h = greater_of (pos 0) ((h.earned_income +ℤ h.other_income) -ℤ deduction y h)

-- ---- dependents

unfoldable pub is_under_age : Year → Dependent → Bool
is_under_age y p = int_lt (age_in y p.date_of_birth) (pos 19) || (p.student && int_lt (age_in y p.date_of_birth) (pos 24))

-- younger than the filer, or on a joint return than the spouse
unfoldable pub is_younger : Household → Dependent → Bool
is_younger h p = is_later p.date_of_birth h.date_of_birth || (is_joint h && is_later p.date_of_birth h.spouse_date_of_birth)

unfoldable pub is_qualifying_child : Year → Household → Dependent → Bool
is_qualifying_child y h p =
    p.child_relationship && (p.disabled || (is_under_age y p && is_younger h p)) && p.lived_with_filer && not p.self_supported && not p.joint_return

unfoldable pub is_qualifying_relative : Year → Household → Dependent → Bool
is_qualifying_relative y h p =
    not (is_qualifying_child y h p) && p.related_or_member && int_lt p.gross_income (cents y.gross_income_limit) && p.supported_by_filer

unfoldable pub is_dependent : Year → Household → Dependent → Bool
is_dependent y h p = is_qualifying_child y h p || is_qualifying_relative y h p

abbrev pub members : List Dependent → List ℕ
members ps = map (λ p. p.member) ps

abbrev pub dependents : Year → Household → List Dependent
dependents y h = filter (is_dependent y h) h.persons

abbrev pub qualifying_children : Year → Household → List Dependent
qualifying_children y h = filter (is_qualifying_child y h) h.persons
