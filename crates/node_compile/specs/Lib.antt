pub mod Compiling
pub mod Compiled
pub mod FactTrees
pub mod Laws
