pub mod Context
pub mod NodeReads
pub mod Noted
