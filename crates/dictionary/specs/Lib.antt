pub mod AcceptedParts
pub mod ByRank
pub mod Checks
pub mod Engines
pub mod Faults
pub mod Keeping
pub mod PartsView
pub mod SteadyDependencies
