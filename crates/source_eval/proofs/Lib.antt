pub mod EvalLaws
pub mod ReadLaws
