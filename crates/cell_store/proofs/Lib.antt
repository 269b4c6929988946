pub mod GlobalLaws
pub mod NumberLaws
pub mod PlaceLaws
pub mod SlotLaws
