-- What ordering facts gives: their ranks, or the first fact that reaches itself.
use Rattle.std.specs.Prelude.{ℕ, Result, Ok, Err}
use Rattle.std.specs.Global.{Vec}
use Rattle.dict_order.specs.Graph.{Graph, IsFirstCycle}
use Rattle.dict_order.specs.Ranks.{AreRanks}
use Rattle.dict_order.specs.declared.fault.OrderFault.{OrderFault}
use Rattle.dict_order.specs.declared.fault.OrderFault.TheVariants as faults

-- the ranks, or the first fact that reaches itself; want of memory says nothing
abbrev pub Orders : Graph → Result (Vec ℕ) OrderFault → Type 0
Orders graph (Ok ranks) = AreRanks graph ranks.items
Orders graph (Err (faults.Cycle fact)) = IsFirstCycle graph fact
Orders graph (Err faults.NoMemory) = Unit {0}
