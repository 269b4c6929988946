pub mod AllReads
pub mod FactReads
pub mod KeepLaws
pub mod ListingLaws
pub mod PlacedLaws
pub mod ReachLaws
pub mod SlotLists
pub mod WalkLaws
