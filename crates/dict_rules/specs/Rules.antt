-- The rules of paths and checks in their order, and the first fact that breaks one.
use Rattle.std.specs.Prelude.{ℕ, Bool, List, [], ◌∷◌, Option, None, option_map}
use Rattle.std.specs.Option.{option_or}
use Rattle.dict_source.specs.Facts.{Fact}
use Rattle.dict_source.specs.Dictionary.{Dictionary}
use Rattle.dict_rules.specs.declared.fault.TypeFault.{TypeFault}
use Rattle.dict_rules.specs.declared.fault.TypeFault.TheVariants as faults
use Rattle.dict_rules.specs.declared.rules.Rule.{Rule}
use Rattle.dict_rules.specs.declared.rules.Rule.TheVariants as rules
use Rattle.dict_rules.specs.BadPath.{is_bad_path}
use Rattle.dict_rules.specs.FirstFact.{first_passing}
use Rattle.dict_rules.specs.DuplicatePath.{is_duplicate}
use Rattle.dict_rules.specs.NoCollection.{lacks_collection}
use Rattle.dict_rules.specs.UnknownCheck.{has_unknown_check}
use Rattle.dict_rules.specs.UnknownPath.{has_unknown_path}
use Rattle.dict_rules.specs.WrongPlace.{has_wrong_place}

-- the fact with this number breaks the rule; the names are those of the checks
abbrev pub breaks : Dictionary → List (List ℕ) → Rule → ℕ → Fact → Bool
breaks d names rules.BadPath n f = is_bad_path d n f
breaks d names rules.DuplicatePath n f = is_duplicate d n f
breaks d names rules.NoCollection n f = lacks_collection d n f
breaks d names rules.UnknownPath n f = has_unknown_path d n f
breaks d names rules.WrongPlace n f = has_wrong_place d n f
breaks d names rules.UnknownCheck n f = has_unknown_check names f

abbrev pub fault_of : Rule → ℕ → TypeFault
fault_of rules.BadPath n = faults.BadPath n
fault_of rules.DuplicatePath n = faults.DuplicatePath n
fault_of rules.NoCollection n = faults.NoCollection n
fault_of rules.UnknownPath n = faults.UnknownPath n
fault_of rules.WrongPlace n = faults.WrongPlace n
fault_of rules.UnknownCheck n = faults.UnknownCheck n

-- the first fact that breaks the rule
abbrev pub first_breaking : Dictionary → List (List ℕ) → Rule → Option ℕ
first_breaking d names rule = first_passing (breaks d names rule) 1 d.facts

-- the fault of the first of the rules that a fact breaks
abbrev pub first_fault : Dictionary → List (List ℕ) → List Rule → Option TypeFault
first_fault d names [] = None
first_fault d names (rule ∷ later) = option_or (option_map (fault_of rule) (first_breaking d names rule)) (first_fault d names later)

-- the rules in the order in which they are judged
abbrev pub rule_order : List Rule
rule_order = rules.BadPath ∷ rules.DuplicatePath ∷ rules.NoCollection ∷ rules.UnknownPath ∷ rules.WrongPlace ∷ rules.UnknownCheck ∷ []
