pub mod Bytes
pub mod CommandExamples
pub mod CommandLaws
pub mod EndedLaws
pub mod JoinedLaws
pub mod Keeping
pub mod PartLaws
