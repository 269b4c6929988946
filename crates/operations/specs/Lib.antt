pub mod CaseSteps
pub mod FieldFolds
pub mod ItemSteps
pub mod Laws
pub mod ManyFolds
pub mod NumberRuns
pub mod Sources
pub mod Sums
