pub mod CaseLaws
pub mod FieldLaws
pub mod FilterLaws
pub mod LookupLaws
pub mod ManyLaws
pub mod RunLaws
pub mod StepLaws
pub mod SumLaws
