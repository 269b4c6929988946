-- Why a line of a party is refused.
use Rattle.std.specs.Prelude.{◌≡◌, Bool, true, false, List, [], ◌∷◌, Option, Some, None, Result, Ok, Err}
use Rattle.graph_session.specs.Run.{is_memory}
use Rattle.shared_desk.specs.declared.refusal.DeskRefusal.{DeskRefusal}
use Rattle.shared_desk.specs.declared.refusal.DeskRefusal.TheVariants.{Session, Stale, NotYours}

-- the first that holds
abbrev pub first_of : List (Option DeskRefusal) → Option DeskRefusal
first_of [] = None
first_of (None ∷ rest) = first_of rest
first_of (Some r ∷ rest) = Some r

-- what comes where nothing is refused, or the refusal
abbrev pub decided : {A : Type 0} → Option DeskRefusal → A → Result A DeskRefusal
decided None x = Ok x
decided (Some r) x = Err r

-- it is want of memory, which no rule says
abbrev pub wants_memory : DeskRefusal → Bool
wants_memory (Session r) = is_memory r
wants_memory (Stale n) = false
wants_memory (NotYours q) = false

abbrev pub RefusedBut : Bool → DeskRefusal → Option DeskRefusal → Type 0
RefusedBut true r o = Unit {0}
RefusedBut false r o = o ≡ Some r

-- the refusal is the defined one; want of memory says nothing
abbrev pub Refused : DeskRefusal → Option DeskRefusal → Type 0
Refused r o = RefusedBut (wants_memory r) r o
