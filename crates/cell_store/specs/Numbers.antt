-- The plain numbers that cells have.
use Rattle.std.specs.Prelude.{Option, Some, None, ℤ}
use Rattle.fact_values.specs.declared.value.Value.TheVariants.{Dollar, Int}
use Rattle.three_state.specs.declared.res.Res.{Res}
use Rattle.three_state.specs.declared.res.Res.TheVariants.{Complete}
use Rattle.cell_store.specs.declared.cell.Cell.{Cell}
use Rattle.cell_store.specs.declared.number.CellNumber.{CellNumber}
use Rattle.cell_store.specs.declared.number.CellNumber.TheVariants.{Amount, Other, WholeNumber}

-- what a result is as a plain number
abbrev pub number_in : Res → CellNumber
number_in (Complete (Dollar cents)) = Amount cents
number_in (Complete (Int n)) = WholeNumber n
number_in _ = Other

-- and the result of a cell, if there is one
abbrev pub number_of : Option Cell → CellNumber
number_of None = Other
number_of (Some c) = number_in c.res

-- the amount of money, in cents
abbrev pub amount_in : CellNumber → Option ℤ
amount_in (Amount cents) = Some cents
amount_in _ = None

abbrev pub whole_in : CellNumber → Option ℤ
whole_in (WholeNumber n) = Some n
whole_in _ = None
