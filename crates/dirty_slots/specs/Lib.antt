pub mod MemberBits
pub mod PlaceBits
pub mod Places
pub mod Slots
pub mod Waiting
