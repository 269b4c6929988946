pub mod CutLaws
pub mod FactPathLaws
pub mod MemberNumbers
pub mod NameLaws
pub mod ParsingLaws
pub mod SlotPathLaws
pub mod UsePathLaws
