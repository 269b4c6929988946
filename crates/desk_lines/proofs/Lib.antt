pub mod AnsweringLaws
pub mod DeskExamples
pub mod DeskFinalLaws
pub mod DeskStepLaws
pub mod MarkLaws
pub mod PartyExamples
pub mod ReturnLaws
pub mod SayingLaws
