pub mod BitLaws
pub mod DirtyLaws
pub mod MarkLaws
pub mod MemberBitLaws
