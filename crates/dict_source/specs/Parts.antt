-- What a reader of a part of a dictionary gives: the part, the fault `Shape`, or want of memory.
use Rattle.std.specs.Prelude.{◌≡◌, Option, Some, None, Result, Ok, Err}
use Rattle.dict_source.specs.declared.read_fault.ReadFault.{ReadFault}
use Rattle.dict_source.specs.declared.read_fault.ReadFault.TheVariants.{Shape, NoMemory}

-- seen by view: the part, or Shape where there is none. Want of memory says nothing.
abbrev pub Gives : {X Y : Type 0} → (X → Y) → Result X ReadFault → Option Y → Type 0
Gives view (Ok x) part = part ≡ Some (view x)
Gives view (Err Shape) part = part ≡ None
Gives view (Err NoMemory) part = Unit {0}
