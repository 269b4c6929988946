-- What is reported to C of a session that is begun, or isn't.
use Rattle.std.proofs.Common.{◌≡◌, Some, Result, Ok, Err, IfErr, IfOk, inl, inr}
use Rattle.fact_graph_c.specs.Calls.{BeginsCall}
use Rattle.fact_graph_c.specs.Faults.{fault_numbers, plain}
use Rattle.fact_graph_c.proofs.OpeningLaws.{Boxed}
use Rattle.fact_graph_c.specs.declared.engine.Engine.{Engine}
use Rattle.fact_graph_c.specs.declared.fault.Fault.{Fault}
use Rattle.fact_graph_c.specs.declared.fault.NotBegun.{NotBegun}
use Rattle.fact_graph_c.specs.declared.session_slot.SessionSlot.{SessionSlot}

-- a session that is begun is handed out, and else its fault is reported
pub tells : (Begins : Engine → Type 0) (IsWhy : NotBegun → Type 0) (place place_now : SessionSlot) (fault : Fault) (result : Result Boxed NotBegun) → IfOk result (λ x. Begins x.value) → IfErr result IsWhy
    → IfOk result (λ x. (place_now.value ≡ Some x.value) × (fault ≡ plain 0)) → IfErr result (λ why. (place_now ≡ place) × (fault ≡ fault_numbers why)) → BeginsCall Begins IsWhy place place_now fault
tells Begins IsWhy place place_now fault (Ok x) begins why handed output = inl (x.value, begins, handed.0, handed.1)
tells Begins IsWhy place place_now fault (Err reason) begins why handed output = inr (reason, why, output.0, output.1)

-- with a text of this size
pub sized : (Begins : Engine → Type 0) (Size : Engine → Type 0) (result : Result Boxed NotBegun) → IfOk result (λ x. Begins x.value) → IfOk result (λ x. Size x.value) → IfOk result (λ x. Begins x.value × Size x.value)
sized Begins Size (Ok x) begins size = (begins, size)
sized Begins Size (Err reason) begins size = tt

pub unsized : (IsWhy : NotBegun → Type 0) (Size : Type 0) (result : Result Boxed NotBegun) → IfErr result IsWhy → IfErr result (λ _. Size) → IfErr result (λ why. IsWhy why × Size)
unsized IsWhy Size (Ok x) why size = tt
unsized IsWhy Size (Err reason) why size = (why, size)
