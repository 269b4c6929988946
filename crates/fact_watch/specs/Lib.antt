pub mod Refusals
pub mod Says
pub mod Tables
pub mod Watching
