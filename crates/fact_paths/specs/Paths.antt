-- Which text spells which path.
use Rattle.std.specs.Prelude.{◌≡◌, ℕ, ◌≤◌, decimal, codes, List, ◌++◌, Result, Ok, Err}
use Rattle.fact_paths.specs.Names.{IsName}
use Rattle.fact_paths.specs.declared.fault.PathFault.{PathFault}
use Rattle.fact_paths.specs.declared.fault.PathFault.TheVariants.{BadPath, NoMemory}
use Rattle.fact_paths.specs.declared.fact_path.FactPath.{FactPath}
use Rattle.fact_paths.specs.declared.fact_path.FactPath.TheVariants as facts
use Rattle.fact_paths.specs.declared.use_path.UsePath.{UsePath}
use Rattle.fact_paths.specs.declared.use_path.UsePath.TheVariants as uses
use Rattle.fact_paths.specs.declared.slot_path.SlotPath.{SlotPath}
use Rattle.fact_paths.specs.declared.slot_path.SlotPath.TheVariants as slots

-- ---- paths of facts

-- `/N`, and `/N/*/M`
abbrev pub fact_path_text : FactPath → List ℕ
fact_path_text (facts.Global n) = codes "/" ++ n
fact_path_text (facts.Member n m) = codes "/" ++ (n ++ (codes "/*/" ++ m))

-- its names are names
abbrev pub IsFactPath : FactPath → Type 0
IsFactPath (facts.Global n) = IsName n
IsFactPath (facts.Member n m) = IsName n × IsName m

-- the text spells the path: it is the path's text
abbrev pub SpellsFactPath : List ℕ → FactPath → Type 0
SpellsFactPath text path = IsFactPath path × (text ≡ fact_path_text path)

-- ---- paths of uses

-- `/N`, `../N`, `N`, `/N/*/M`, `/N/M`, and `../N/M`
abbrev pub use_path_text : UsePath → List ℕ
use_path_text (uses.Global n) = codes "/" ++ n
use_path_text (uses.Sibling n) = codes "../" ++ n
use_path_text (uses.Inner n) = n
use_path_text (uses.Each n m) = codes "/" ++ (n ++ (codes "/*/" ++ m))
use_path_text (uses.Through n m) = codes "/" ++ (n ++ (codes "/" ++ m))
use_path_text (uses.SiblingThrough n m) = codes "../" ++ (n ++ (codes "/" ++ m))

abbrev pub IsUsePath : UsePath → Type 0
IsUsePath (uses.Global n) = IsName n
IsUsePath (uses.Sibling n) = IsName n
IsUsePath (uses.Inner n) = IsName n
IsUsePath (uses.Each n m) = IsName n × IsName m
IsUsePath (uses.Through n m) = IsName n × IsName m
IsUsePath (uses.SiblingThrough n m) = IsName n × IsName m

abbrev pub SpellsUsePath : List ℕ → UsePath → Type 0
SpellsUsePath text path = IsUsePath path × (text ≡ use_path_text path)

-- ---- paths of slots

-- members of a collection are numbered from 1
abbrev pub IsMemberNumber : ℕ → Type 0
IsMemberNumber k = (1 ≤ k) × (k ≤ 1000000)

-- a number is spelled in decimal
abbrev pub SpellsMemberNumber : List ℕ → ℕ → Type 0
SpellsMemberNumber text k = IsMemberNumber k × (text ≡ decimal k)

-- `/N`, and `/N/#K/M`
abbrev pub slot_path_text : SlotPath → List ℕ
slot_path_text (slots.Global n) = codes "/" ++ n
slot_path_text (slots.Member n k m) = codes "/" ++ (n ++ (codes "/#" ++ (decimal k ++ (codes "/" ++ m))))

-- its names are names, and its number is a member's
abbrev pub IsSlotPath : SlotPath → Type 0
IsSlotPath (slots.Global n) = IsName n
IsSlotPath (slots.Member n k m) = IsName n × IsMemberNumber k × IsName m

abbrev pub SpellsSlotPath : List ℕ → SlotPath → Type 0
SpellsSlotPath text path = IsSlotPath path × (text ≡ slot_path_text path)

-- ---- readers

-- Ok is a path that the text spells, and BadPath comes where it spells none. Want of memory says nothing.
abbrev pub Reads : {P : Type 0} → (List ℕ → P → Type 0) → List ℕ → Result P PathFault → Type 0
Reads spells text (Ok path) = spells text path
Reads {P = P} spells text (Err BadPath) = (path : P) → ¬ (spells text path)
Reads spells text (Err NoMemory) = Unit {0}
