-- What each derived fact is worth, but for those of amounts and of lists.
use Rattle.std.proofs.Common.{◌≡◌, ℕ, ◌+◌, ◌-◌, ◌+ℤ◌, ◌-ℤ◌, int_lt, not, Bool, true, false, ◌&&◌, ◌||◌, if◌then◌else◌, IsTrue, pos, [], ◌∷◌, Ok, is_ok, refl, ap, ◌∙◌, arith}
use Rattle.std.specs.Prelude.{◌==◌}
use Rattle.fact_values.specs.declared.value.Value.{Value}
use Rattle.fact_values.specs.declared.value.Value.TheVariants.{Boolean, Choice, Dollar, Int}
use Rattle.dict_source.specs.declared.operators.ManyOp.TheVariants.{Add}
use Rattle.evaluation.specs.Operations.{many_value}
use Rattle.evaluation.specs.Sure.{value_of}
use Rattle.answers.specs.Answered.{Answered}
use Rattle.dict_meaning.specs.Slots.{is_member}
use Rattle.tax_2023.specs.Household.{Household, Status, single, separately, jointly, surviving_spouse, head_of_household}
use Rattle.tax_2023.specs.Years.{Year}
use Rattle.tax_2023.specs.Figures.{figures}
use Rattle.tax_2023.specs.Tables.{basic_amount, box_amount, boxes, cents, is_dependent, is_head_of_household, is_joint, is_old, is_qualifying_child, is_qualifying_relative, is_surviving_spouse, is_under_age, is_unmarried, is_younger, one_if, status}
use Rattle.tax_2023.specs.Facts as facts
use Rattle.tax_2023.specs.Laws.{status_place, status_value}
use Rattle.tax_2023.proofs.Ages.{first_of, is_gt-int_lt, is_lt-int_lt, old, young}
use Rattle.tax_2023.proofs.Spells.{IsWritten}
use Rattle.tax_2023.proofs.Values.{person}
use Rattle.tax_2023.proofs.YearDictionary.{Rest, Worth}

pub joint_stated : (y : Year) (t : Rest) (a : Answered) (h : Household) → Worth y t a h 17 0 (Boolean (is_joint h)) facts.joint
unfolding is_joint
joint_stated y t a h = λ results. (refl, refl)

pub unmarried_stated : (y : Year) (t : Rest) (a : Answered) (h : Household) → Worth y t a h 18 0 (Boolean (is_unmarried h)) facts.unmarried
unfolding is_unmarried
unmarried_stated y t a h = λ results. (refl, refl)

-- ---- filing status

status_by : (a b c d : Bool)
    → (if a then Choice 0 2 else if b then Choice 0 3 else if c then Choice 0 4 else if d then Choice 0 1 else Choice 0 0)
    ≡ status_value (if a then jointly else if b then surviving_spouse else if c then head_of_household else if d then separately else single)
status_by true b c d = refl
status_by false true c d = refl
status_by false false true d = refl
status_by false false false true = refl
status_by false false false false = refl

pub filing_status_stated : (y : Year) (t : Rest) (a : Answered) (h : Household) → Worth y t a h 19 0 (status_value (status h)) facts.filing_status
unfolding status is_surviving_spouse is_head_of_household
filing_status_stated y t a h = λ results. (refl, status_by (is_joint h) (is_surviving_spouse h) (is_head_of_household h) h.married)

-- ---- the rows of the table

basic_by : (y : Year) → IsWritten y → (s : Status)
    → (if status_place s == 2 || status_place s == 3 then Dollar (cents (y.basic jointly)) else if status_place s == 4 then Dollar (cents (y.basic head_of_household)) else Dollar (cents (y.basic single)))
    ≡ Dollar (cents (y.basic s))
basic_by y w single = refl
basic_by y w separately = rw w.shares.basic_separately refl
basic_by y w jointly = refl
basic_by y w surviving_spouse = rw w.shares.basic_surviving refl
basic_by y w head_of_household = refl

pub basic_stated : (y : Year) (t : Rest) (a : Answered) (h : Household) → IsWritten y → Worth y t a h 20 0 (Dollar (basic_amount y h)) (facts.basic_amount (figures y))
basic_stated y t a h w = λ results. (refl, rw (w.spells.basic_single, w.spells.basic_jointly, w.spells.basic_head) (basic_by y w (status h)))

box_by : (y : Year) → IsWritten y → (s : Status)
    → (if status_place s == 0 || status_place s == 4 then Dollar (cents (y.box single)) else Dollar (cents (y.box separately))) ≡ Dollar (cents (y.box s))
box_by y w single = refl
box_by y w separately = refl
box_by y w jointly = rw w.shares.box_jointly refl
box_by y w surviving_spouse = rw w.shares.box_surviving refl
box_by y w head_of_household = rw w.shares.box_head refl

pub additional_stated : (y : Year) (t : Rest) (a : Answered) (h : Household) → IsWritten y → Worth y t a h 21 0 (Dollar (box_amount y h)) (facts.additional_amount (figures y))
additional_stated y t a h w = λ results. (refl, rw (w.spells.box_single, w.spells.box_separately) (box_by y w (status h)))

-- ---- boxes

abbrev bit : Bool → Value
bit b = if b then Int (pos 1) else Int (pos 0)

bits : (a b c d : Bool) → many_value Add (bit a ∷ bit b ∷ bit c ∷ bit d ∷ []) ≡ Ok (Int (pos (one_if a + one_if b + one_if c + one_if d)))
bits true true true true = refl
bits true true true false = refl
bits true true false true = refl
bits true true false false = refl
bits true false true true = refl
bits true false true false = refl
bits true false false true = refl
bits true false false false = refl
bits false true true true = refl
bits false true true false = refl
bits false true false true = refl
bits false true false false = refl
bits false false true true = refl
bits false false true false = refl
bits false false false true = refl
bits false false false false = refl

pub boxes_stated : (y : Year) (t : Rest) (a : Answered) (h : Household) → IsWritten y → Worth y t a h 22 0 (Int (pos (boxes y h))) (facts.boxes (figures y))
unfolding boxes is_old
boxes_stated y t a h w = λ results.
    let first = first_of (y.year + 1 - 65) in
    let own = is_lt-int_lt h.date_of_birth (first +ℤ pos 1) ∙ old h.date_of_birth first in
    let their = is_lt-int_lt h.spouse_date_of_birth (first +ℤ pos 1) ∙ old h.spouse_date_of_birth first in
    let all = bits (not (int_lt first h.date_of_birth)) h.blind (is_joint h && not (int_lt first h.spouse_date_of_birth)) (is_joint h && h.spouse_blind) in
    (rw (w.spells.old_before, own, their) (ap is_ok all), rw (w.spells.old_before, own, their) (ap value_of all))

-- ---- members

pub under_age_stated : (y : Year) (t : Rest) (a : Answered) (h : Household) → IsWritten y → (m : ℕ) → IsTrue (is_member a 26 m) → Worth y t a h 37 m (Boolean (is_under_age y (person a m))) (facts.under_age (figures y))
unfolding is_under_age
under_age_stated y t a h w m st = λ results.
    let born = (person a m).date_of_birth in
    let small = w.small in
    let nineteen = is_gt-int_lt born (first_of (y.year - 18) -ℤ pos 1) ∙ young born y.year 18 (omega (arith, small.from)) (omega (arith, small.from)) (omega (arith, small.until)) in
    let twenty_four = is_gt-int_lt born (first_of (y.year - 23) -ℤ pos 1) ∙ young born y.year 23 (omega (arith, small.from)) (omega (arith, small.from)) (omega (arith, small.until)) in
    (rw st refl, rw (w.spells.under_19_after, w.spells.under_24_after, nineteen, twenty_four) refl)

pub younger_stated : (y : Year) (t : Rest) (a : Answered) (h : Household) (m : ℕ) → IsTrue (is_member a 26 m) → Worth y t a h 38 m (Boolean (is_younger h (person a m))) facts.younger
unfolding is_younger
younger_stated y t a h m st = λ results.
    let born = (person a m).date_of_birth in
    (rw st refl, rw (is_gt-int_lt born h.date_of_birth, is_gt-int_lt born h.spouse_date_of_birth) refl)

pub child_stated : (y : Year) (t : Rest) (a : Answered) (h : Household) (m : ℕ) → IsTrue (is_member a 26 m) → Worth y t a h 39 m (Boolean (is_qualifying_child y h (person a m))) facts.qualifying_child
unfolding is_qualifying_child
child_stated y t a h m st = λ results. (rw st refl, refl)

pub relative_stated : (y : Year) (t : Rest) (a : Answered) (h : Household) → IsWritten y → (m : ℕ) → IsTrue (is_member a 26 m) → Worth y t a h 40 m (Boolean (is_qualifying_relative y h (person a m))) (facts.qualifying_relative (figures y))
unfolding is_qualifying_relative
relative_stated y t a h w m st = λ results.
    (rw st refl, rw (w.spells.gross_below, is_lt-int_lt (person a m).gross_income (cents y.gross_income_limit)) refl)

pub dependent_stated : (y : Year) (t : Rest) (a : Answered) (h : Household) (m : ℕ) → IsTrue (is_member a 26 m) → Worth y t a h 41 m (Boolean (is_dependent y h (person a m))) facts.is_dependent
unfolding is_dependent
dependent_stated y t a h m st = λ results. (rw st refl, refl)
