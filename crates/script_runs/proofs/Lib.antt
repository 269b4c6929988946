pub mod AnsweredLineLaws
pub mod EndLaws
pub mod MeaningLaws
pub mod PieceLaws
pub mod ScriptLaws
pub mod SoFarLaws
pub mod StepLaws
