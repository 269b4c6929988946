-- The lines that say whether a dictionary is accepted, what its fault is, and where a saved text is refused.
use Rattle.std.specs.Prelude.{ℕ, Bool, true, false, List, [], ◌++◌, codes}
use Rattle.dictionary.specs.declared.fault.DictFault.{DictFault}
use Rattle.dictionary.specs.declared.fault.DictFault.TheVariants.{TooLong, NotJson, Shape, TooMany, TooDeep, BadPath, DuplicatePath, NoCollection, UnknownPath, WrongPlace, UnknownCheck, IllTyped, BadLimit, Cycle, NoMemory}
use Rattle.session_lines.specs.Replies.{line_with, numbered}

-- want of memory is no fault of a dictionary
abbrev pub is_memory : DictFault → Bool
is_memory NoMemory = true
is_memory _ = false

-- its number and its name
abbrev pub fault_name : DictFault → List ℕ
fault_name TooLong = codes "1 TooLong"
fault_name NotJson = codes "2 NotJson"
fault_name (Shape fact) = codes "3 Shape"
fault_name (TooMany what) = codes "4 TooMany"
fault_name (TooDeep fact) = codes "5 TooDeep"
fault_name (BadPath fact) = codes "6 BadPath"
fault_name (DuplicatePath fact) = codes "7 DuplicatePath"
fault_name (NoCollection fact) = codes "8 NoCollection"
fault_name (UnknownPath fact) = codes "9 UnknownPath"
fault_name (WrongPlace fact) = codes "10 WrongPlace"
fault_name (UnknownCheck fact) = codes "11 UnknownCheck"
fault_name (IllTyped fact node) = codes "12 IllTyped"
fault_name (BadLimit fact) = codes "13 BadLimit"
fault_name (Cycle fact) = codes "14 Cycle"
fault_name NoMemory = []

abbrev pub at_fact : ℕ → List ℕ
at_fact fact = numbered (codes " fact ") fact

-- where it is
abbrev pub fault_place : DictFault → List ℕ
fault_place TooLong = []
fault_place NotJson = []
fault_place (Shape fact) = at_fact fact
fault_place (TooMany what) = numbered (codes " what ") what
fault_place (TooDeep fact) = at_fact fact
fault_place (BadPath fact) = at_fact fact
fault_place (DuplicatePath fact) = at_fact fact
fault_place (NoCollection fact) = at_fact fact
fault_place (UnknownPath fact) = at_fact fact
fault_place (WrongPlace fact) = at_fact fact
fault_place (UnknownCheck fact) = at_fact fact
fault_place (IllTyped fact node) = at_fact fact ++ numbered (codes " node ") node
fault_place (BadLimit fact) = at_fact fact
fault_place (Cycle fact) = at_fact fact
fault_place NoMemory = []

abbrev pub fault_line : DictFault → List ℕ
fault_line fault = line_with (codes "dictionary refused " ++ fault_name fault ++ fault_place fault)

-- so many facts and nodes
abbrev pub accepted_line : ℕ → ℕ → List ℕ
accepted_line facts nodes = line_with (numbered (codes "dictionary accepted ") facts ++ numbered (codes " facts ") nodes ++ codes " nodes")

-- a saved text is refused at this line
abbrev pub saved_refused_line : ℕ → List ℕ
saved_refused_line n = line_with (numbered (codes "saved refused line ") n)
