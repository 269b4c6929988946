-- What is reported to C of a desk that is begun, or isn't.
use Rattle.std.proofs.Common.{◌≡◌, Some, Result, Ok, Err, IfErr, IfOk, inl, inr}
use Rattle.fact_graph_c.specs.DeskCalls.{BeginsDeskCall}
use Rattle.fact_graph_c.specs.Faults.{fault_numbers, plain}
use Rattle.fact_graph_c.proofs.DeskOpeningLaws.{BoxedDesk}
use Rattle.fact_graph_c.specs.declared.desk_engine.DeskEngine.{DeskEngine}
use Rattle.fact_graph_c.specs.declared.desk_slot.DeskSlot.{DeskSlot}
use Rattle.fact_graph_c.specs.declared.fault.Fault.{Fault}
use Rattle.fact_graph_c.specs.declared.fault.NotBegun.{NotBegun}

-- a desk that is begun is handed out, and else its fault is reported
pub tells_desk : (Begins : DeskEngine → Type 0) (IsWhy : NotBegun → Type 0) (place place_now : DeskSlot) (fault : Fault) (result : Result BoxedDesk NotBegun) → IfOk result (λ x. Begins x.value) → IfErr result IsWhy
    → IfOk result (λ x. (place_now.value ≡ Some x.value) × (fault ≡ plain 0)) → IfErr result (λ why. (place_now ≡ place) × (fault ≡ fault_numbers why)) → BeginsDeskCall Begins IsWhy place place_now fault
tells_desk Begins IsWhy place place_now fault (Ok x) begins why handed output = inl (x.value, begins, handed.0, handed.1)
tells_desk Begins IsWhy place place_now fault (Err reason) begins why handed output = inr (reason, why, output.0, output.1)
