pub mod FeedLaws
pub mod IndexLaws
pub mod NotingLaws
mod ReaderExamples
pub mod ReaderLaws
pub mod ReaderNumbers
