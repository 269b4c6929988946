pub mod Cuts
pub mod Laws
pub mod Names
pub mod Paths
pub mod Parsing
