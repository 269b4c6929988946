pub mod AgeLemmas
pub mod BisectionLemmas
pub mod DateLemmas
pub mod LawExamples
pub mod MonthLemmas
pub mod MultipleLemmas
