-- The value of each fact, by its number.
use Rattle.std.proofs.Common.{ℕ, zero, suc, pos, ◌+ℤ◌, false, List, [], ◌∷◌, length, Option, None, slice_get}
use Rattle.std.specs.Prelude.{unwrap_or, option_map}
use Rattle.fact_values.specs.declared.value.Value.{Value}
use Rattle.fact_values.specs.declared.value.Value.TheVariants.{Boolean, Day, Dollar, Int, Members}
use Rattle.three_state.specs.Results.{truth}
use Rattle.evaluation.specs.Operations.{day_in, dollar_in}
use Rattle.answers.specs.Answered.{Answered, value_of}
use Rattle.answers.specs.declared.edit.Side.TheVariants.{Answer}
use Rattle.evaluation.specs.Results.{slot}
use Rattle.tax_2023.specs.Household.{Dependent, Household}
use Rattle.tax_2023.specs.Years.{Year}
use Rattle.tax_2023.specs.Tables.{basic_amount, box_amount, boxes, deduction, dependents, is_dependent, is_joint, is_qualifying_child, is_qualifying_relative, is_under_age, is_unmarried, is_younger, members, qualifying_children, status, taxable_income}
use Rattle.tax_2023.specs.Laws.{status_value}
use Rattle.tax_2023.proofs.Stated.{Stated}

-- ---- the person of a member, from the answers

abbrev pub given : Answered → ℕ → ℕ → Value
given a m fact = unwrap_or (value_of Answer a (slot fact m)) (Boolean false)

abbrev pub person : Answered → ℕ → Dependent
person a m = record {
  member = m;
  date_of_birth = day_in (given a m 27);
  child_relationship = truth (given a m 28);
  student = truth (given a m 29);
  disabled = truth (given a m 30);
  lived_with_filer = truth (given a m 31);
  self_supported = truth (given a m 32);
  joint_return = truth (given a m 33);
  related_or_member = truth (given a m 34);
  gross_income = dollar_in (given a m 35);
  supported_by_filer = truth (given a m 36);
}

-- ---- values

pub data Entry : Type 0 where
  of_return : (Household → Value) → Entry
  of_person : (Household → Dependent → Value) → Entry

-- of facts 1 to 44
abbrev pub entries : Year → List Entry
entries y =
    of_return (λ h. Day h.date_of_birth)
    ∷ of_return (λ h. Boolean h.blind)
    ∷ of_return (λ h. Day h.spouse_date_of_birth)
    ∷ of_return (λ h. Boolean h.spouse_blind)
    ∷ of_return (λ h. Boolean h.married)
    ∷ of_return (λ h. Boolean h.considered_unmarried)
    ∷ of_return (λ h. Boolean h.file_jointly)
    ∷ of_return (λ h. Boolean h.spouse_died)
    ∷ of_return (λ h. Boolean h.remarried)
    ∷ of_return (λ h. Boolean h.child_in_home)
    ∷ of_return (λ h. Boolean h.paid_half_of_home)
    ∷ of_return (λ h. Boolean h.qualifying_person)
    ∷ of_return (λ h. Boolean h.spouse_itemizes)
    ∷ of_return (λ h. Boolean h.can_be_claimed)
    ∷ of_return (λ h. Dollar h.earned_income)
    ∷ of_return (λ h. Dollar h.other_income)
    ∷ of_return (λ h. Boolean (is_joint h))
    ∷ of_return (λ h. Boolean (is_unmarried h))
    ∷ of_return (λ h. status_value (status h))
    ∷ of_return (λ h. Dollar (basic_amount y h))
    ∷ of_return (λ h. Dollar (box_amount y h))
    ∷ of_return (λ h. Int (pos (boxes y h)))
    ∷ of_return (λ h. Dollar (deduction y h))
    ∷ of_return (λ h. Dollar (h.earned_income +ℤ h.other_income))
    ∷ of_return (λ h. Dollar (taxable_income y h))
    ∷ of_return (λ h. Members (members h.persons))
    ∷ of_person (λ h p. Day p.date_of_birth)
    ∷ of_person (λ h p. Boolean p.child_relationship)
    ∷ of_person (λ h p. Boolean p.student)
    ∷ of_person (λ h p. Boolean p.disabled)
    ∷ of_person (λ h p. Boolean p.lived_with_filer)
    ∷ of_person (λ h p. Boolean p.self_supported)
    ∷ of_person (λ h p. Boolean p.joint_return)
    ∷ of_person (λ h p. Boolean p.related_or_member)
    ∷ of_person (λ h p. Dollar p.gross_income)
    ∷ of_person (λ h p. Boolean p.supported_by_filer)
    ∷ of_person (λ h p. Boolean (is_under_age y p))
    ∷ of_person (λ h p. Boolean (is_younger h p))
    ∷ of_person (λ h p. Boolean (is_qualifying_child y h p))
    ∷ of_person (λ h p. Boolean (is_qualifying_relative y h p))
    ∷ of_person (λ h p. Boolean (is_dependent y h p))
    ∷ of_return (λ h. Members (members (dependents y h)))
    ∷ of_return (λ h. Int (pos (length (dependents y h))))
    ∷ of_return (λ h. Int (pos (length (qualifying_children y h))))
    ∷ []

abbrev pub entry_value : Household → (ℕ → Dependent) → Entry → ℕ → Value
entry_value h g (of_return f) m = f h
entry_value h g (of_person f) m = f h (g m)

abbrev pub numbered : {X : Type 0} → List X → ℕ → Option X
numbered xs zero = None
numbered xs (suc i) = slice_get xs i

-- with the person of each member
abbrev pub stated : Year → Household → (ℕ → Dependent) → Stated
stated y h g n = option_map (entry_value h g) (numbered (entries y) n)
