pub mod DictLaws
pub mod FoundLaws
pub mod LimitLaws
pub mod SizeLaws
pub mod UnfitLaws
