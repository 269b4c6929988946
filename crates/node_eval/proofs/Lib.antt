pub mod DecideLaws
pub mod FrontLaws
pub mod GlobalLaws
pub mod MemoryLaws
pub mod RestLaws
pub mod Views
mod CellExamples
mod StateExamples
