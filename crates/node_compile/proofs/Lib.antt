pub mod FactLaws
pub mod GivesLaws
mod NodeExamples
pub mod NodeTypeLaws
pub mod OperandLaws
pub mod ReadLaws
pub mod SlotLaws
pub mod TargetLaws
pub mod Views
