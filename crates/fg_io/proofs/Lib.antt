pub mod ConsumedLaws
pub mod Cuts
mod Examples
pub mod Fetched
pub mod KeptFiles
pub mod PutLaws
pub mod Rising
pub mod SentLaws
pub mod WritingLaws
