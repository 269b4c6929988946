-- What an Add has seen while all its operands are complete numbers of one type.
use Rattle.std.specs.Prelude.{ℕ, Bool, true, false, []}
use Rattle.fact_values.specs.Totals.{Sum}
use Rattle.three_state.specs.Results.{verdict_of}
use Rattle.operations.specs.ManyFolds.{ManySeen}
use Rattle.operations.specs.declared.gathered.Gathered.TheVariants.{Added}
use Rattle.operations.specs.declared.accumulator.Accumulator.{Accumulator}
use Rattle.operations.specs.declared.accumulator.Accumulator.TheVariants.{Values}
use Rattle.operations.specs.declared.sum.Summed.{Summed}
use Rattle.operations.specs.declared.sum.Summed.TheVariants.{Dollars, Ints}

abbrev pub summed_as : Bool → Sum → Summed
summed_as true sum = Dollars sum
summed_as false sum = Ints sum

abbrev pub numbers_seen : ℕ → Bool → Sum → ManySeen
numbers_seen count are_amounts sum = record { count = count; kept = Values (verdict_of []) (Added (summed_as are_amounts sum)) }

-- whether they are amounts of money
abbrev pub are_amounts : Accumulator → Bool
are_amounts (Values verdict (Added (Dollars sum))) = true
are_amounts _ = false

-- whether they are whole numbers
abbrev pub are_wholes : Accumulator → Bool
are_wholes (Values verdict (Added (Ints sum))) = true
are_wholes _ = false
