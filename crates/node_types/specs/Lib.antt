pub mod CaseTypes
pub mod Constants
pub mod FactTyping
pub mod Inferring
pub mod ListSizes
pub mod NodeFaults
pub mod StatedTypes
