pub mod Contents
pub mod Globals
pub mod Laws
pub mod Numbers
pub mod Places
pub mod SlotOrder
