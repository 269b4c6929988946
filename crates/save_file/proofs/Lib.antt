pub mod CarriedAnswers
pub mod CarriedEnds
pub mod CarryLaws
mod Common
pub mod DroppedLaws
pub mod OwnLaws
pub mod OwnTexts
pub mod PrintedValues
pub mod ResumeLaws
pub mod SameTexts
pub mod SlotsRise
