pub mod Commands
pub mod Joined
pub mod Kinds
pub mod LineSoFar
pub mod Lines
pub mod Pieces
pub mod Parsing
