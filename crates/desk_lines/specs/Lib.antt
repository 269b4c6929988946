pub mod PartyLines
pub mod DeskStepping
pub mod DeskSteps
pub mod DeskAnswering
pub mod DeskLaws
