-- Why a session isn't begun, as numbers.
use Rattle.std.specs.Prelude.{ℕ}
use Rattle.dictionary.specs.declared.fault.DictFault.{DictFault}
use Rattle.dictionary.specs.declared.fault.DictFault.TheVariants.{TooLong, NotJson, Shape, TooMany, TooDeep, BadPath, DuplicatePath, NoCollection, UnknownPath, WrongPlace, UnknownCheck, IllTyped, BadLimit, Cycle, NoMemory}
use Rattle.fact_graph_c.specs.declared.fault.Fault.{Fault}
use Rattle.fact_graph_c.specs.declared.fault.NotBegun.{NotBegun}
use Rattle.fact_graph_c.specs.declared.fault.NotBegun.TheVariants.{Dictionary, Saved, Unknown}

-- what a field is where the fault has no such number
abbrev pub absent : ℕ
absent = 4294967295

abbrev pub fault_with : (number fact node what line : ℕ) → Fault
fault_with number fact node what line = record { number = number; fact = fact; node = node; what = what; line = line }

abbrev pub plain : ℕ → Fault
plain number = fault_with number absent absent absent absent

abbrev pub at_fact : ℕ → ℕ → Fault
at_fact number fact = fault_with number fact absent absent absent

-- the number of a dictionary's fault, and where it is
abbrev pub dictionary_fault : DictFault → Fault
dictionary_fault TooLong = plain 1
dictionary_fault NotJson = plain 2
dictionary_fault (Shape fact) = at_fact 3 fact
dictionary_fault (TooMany what) = fault_with 4 absent absent what absent
dictionary_fault (TooDeep fact) = at_fact 5 fact
dictionary_fault (BadPath fact) = at_fact 6 fact
dictionary_fault (DuplicatePath fact) = at_fact 7 fact
dictionary_fault (NoCollection fact) = at_fact 8 fact
dictionary_fault (UnknownPath fact) = at_fact 9 fact
dictionary_fault (WrongPlace fact) = at_fact 10 fact
dictionary_fault (UnknownCheck fact) = at_fact 11 fact
dictionary_fault (IllTyped fact node) = fault_with 12 fact node absent absent
dictionary_fault (BadLimit fact) = at_fact 13 fact
dictionary_fault (Cycle fact) = at_fact 14 fact
dictionary_fault NoMemory = plain 15

-- of a saved text the line at which it is refused; 17 where words name no dictionary
abbrev pub fault_numbers : NotBegun → Fault
fault_numbers (Dictionary fault) = dictionary_fault fault
fault_numbers (Saved line) = fault_with 16 absent absent absent line
fault_numbers Unknown = plain 17
