pub mod Equality
pub mod Folds
pub mod Junctions
pub mod Laws
pub mod Order
pub mod Results
