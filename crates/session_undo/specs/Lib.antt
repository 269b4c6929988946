pub mod Directions
pub mod History
pub mod Laws
pub mod UndoState
pub mod Timeline
