-- The faults that the parts of acceptance find are those of the dictionary.
use Rattle.std.proofs.Common.{◌≡◌, ℕ, List, Ok, sym, subst}
use Rattle.dict_source.specs.Dictionary.{Dictionary as Tree}
use Rattle.dict_tree.specs.DictParsing.{BytesGive}
use Rattle.dict_rules.specs.declared.fault.TypeFault.{TypeFault}
use Rattle.dict_rules.specs.declared.fault.TypeFault.TheVariants as types
use Rattle.dict_types.specs.DictFaults.{IsFirstFault}
use Rattle.dict_types.specs.Typed.{Refuses as RefusesTypes}
use Rattle.dictionary.specs.Faults.{IsFault, IsFaultOf, Refuses, of_types}
use Rattle.dictionary.specs.declared.fault.DictFault.{DictFault}
use Rattle.dictionary.specs.declared.fault.DictFault.TheVariants as faults

refused_at : (d : Tree) (names : List (List ℕ)) (fault : TypeFault) → RefusesTypes (IsFirstFault d names) fault → Refuses (IsFaultOf d names) (of_types fault)
refused_at d names types.NoMemory h = tt
refused_at d names fault h = h

pub refused_of_types : (d : Tree) (names : List (List ℕ)) (fault : TypeFault) (e : DictFault) → e ≡ of_types fault → RefusesTypes (IsFirstFault d names) fault → Refuses (IsFaultOf d names) e
refused_of_types d names fault e is h = subst (Refuses (IsFaultOf d names)) (sym is) (refused_at d names fault h)

-- what is a fault of the dictionary is one of the bytes that spell it
pub refused_read : (bytes : List ℕ) (names : List (List ℕ)) (d : Tree) (e : DictFault) → BytesGive bytes (Ok d) → Refuses (IsFaultOf d names) e → Refuses (IsFault bytes names) e
refused_read bytes names d faults.TooLong given h = absurd h
refused_read bytes names d faults.NotJson given h = absurd h
refused_read bytes names d (faults.Shape n) given h = absurd h
refused_read bytes names d (faults.TooMany n) given h = absurd h
refused_read bytes names d (faults.TooDeep n) given h = absurd h
refused_read bytes names d faults.NoMemory given h = tt
refused_read bytes names d _ given h = (d, given, h)
