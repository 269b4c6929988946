pub mod FaultLaws
pub mod FitLaws
pub mod InferLaws
pub mod InferenceLaws
pub mod OneByOneLaws
pub mod ReadLaws
pub mod ValueLaws
