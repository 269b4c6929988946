-- A household, as a person answers for it.
use Rattle.std.specs.Prelude.{ℕ, ℤ, Bool, List}

-- the filing statuses
pub data Status : Type 0 where
  single : Status
  separately : Status
  jointly : Status
  surviving_spouse : Status
  head_of_household : Status

-- a day by its number, 0 for 1970-01-01
abbrev pub DayNumber : Type 0
DayNumber = ℤ

-- an amount in cents
abbrev pub Cents : Type 0
Cents = ℤ

-- a person for whom the filer may claim a dependent, by the number of the member
pub record Dependent : Type 0 where
  pub member : ℕ
  pub date_of_birth : DayNumber
  pub child_relationship : Bool
  pub student : Bool
  pub disabled : Bool
  pub lived_with_filer : Bool
  pub self_supported : Bool
  pub joint_return : Bool
  pub related_or_member : Bool
  pub gross_income : Cents
  pub supported_by_filer : Bool

-- the filer and the spouse, and the persons who may be dependents, in the order in which they were named
pub record Household : Type 0 where
  pub date_of_birth : DayNumber
  pub blind : Bool
  pub spouse_date_of_birth : DayNumber
  pub spouse_blind : Bool
  pub married : Bool
  pub considered_unmarried : Bool
  pub file_jointly : Bool
  pub spouse_died : Bool
  pub remarried : Bool
  pub child_in_home : Bool
  pub paid_half_of_home : Bool
  pub qualifying_person : Bool
  pub spouse_itemizes : Bool
  pub can_be_claimed : Bool
  pub earned_income : Cents
  pub other_income : Cents
  pub persons : List Dependent
