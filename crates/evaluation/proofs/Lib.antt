pub mod Coincide
pub mod CompletesLaws
pub mod LawRanges
pub mod MemberLaws
pub mod Mentions
pub mod OrderLaws
pub mod Orders
pub mod RangeLaws
pub mod ReadsLaws
pub mod ResolvingLaws
pub mod Sureness
pub mod TableLaws
pub mod TypedLaws
pub mod ValueTypes
pub mod VisitLaws
mod NodeExamples
mod ReadExamples
mod SureExamples
mod TypeExamples
mod VisitExamples
