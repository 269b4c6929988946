-- Answers of a household are that in the dictionary of the year too, where further facts stand behind its own.
use Rattle.std.proofs.Common.{List, [], ◌∷◌}
use Rattle.dict_source.specs.Facts.{Fact}
use Rattle.answers.specs.Answered.{Answered}
use Rattle.written_facts.specs.Taking.{with_facts}
use Rattle.tax_2023.specs.Household.{Dependent, Household}
use Rattle.tax_2023.specs.Years.{Year}
use Rattle.tax_2023.specs.Figures.{figures}
use Rattle.tax_2023.specs.Facts.{dictionary}
use Rattle.tax_2023.specs.Answers.{AreOfHousehold, AreOnPerson, AreOnPersons}

module _ (y : Year) (more : List Fact) (a : Answered) where
  person_of_year : (p : Dependent) → AreOnPerson (with_facts (dictionary (figures y)) more) a p → AreOnPerson (dictionary (figures y)) a p
  person_of_year p i = record {
    date_of_birth = i.date_of_birth;
    child_relationship = i.child_relationship;
    student = i.student;
    disabled = i.disabled;
    lived_with_filer = i.lived_with_filer;
    self_supported = i.self_supported;
    joint_return = i.joint_return;
    related_or_member = i.related_or_member;
    gross_income = i.gross_income;
    supported_by_filer = i.supported_by_filer;
  }

  persons_of_year : (ps : List Dependent) → AreOnPersons (with_facts (dictionary (figures y)) more) a ps → AreOnPersons (dictionary (figures y)) a ps
  persons_of_year [] i = tt
  persons_of_year (p ∷ ps) i = (person_of_year p i.0, persons_of_year ps i.1)

  pub household_of_year : (h : Household) → AreOfHousehold (with_facts (dictionary (figures y)) more) a h → AreOfHousehold (dictionary (figures y)) a h
  household_of_year h i = record {
    no_override = i.no_override;
    date_of_birth = i.date_of_birth;
    blind = i.blind;
    spouse_date_of_birth = i.spouse_date_of_birth;
    spouse_blind = i.spouse_blind;
    married = i.married;
    considered_unmarried = i.considered_unmarried;
    file_jointly = i.file_jointly;
    spouse_died = i.spouse_died;
    remarried = i.remarried;
    child_in_home = i.child_in_home;
    paid_half_of_home = i.paid_half_of_home;
    qualifying_person = i.qualifying_person;
    spouse_itemizes = i.spouse_itemizes;
    can_be_claimed = i.can_be_claimed;
    earned_income = i.earned_income;
    other_income = i.other_income;
    opened = i.opened;
    persons = persons_of_year h.persons i.persons;
  }
