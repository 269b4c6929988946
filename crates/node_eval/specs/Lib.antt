pub mod Evaluating
pub mod Globals
pub mod Memory
pub mod NodeTypes
pub mod Reached
pub mod Dependencies
pub mod SlotsOf
pub mod View
