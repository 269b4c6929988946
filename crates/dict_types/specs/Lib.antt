pub mod BadLimit
pub mod DictFaults
pub mod Typed
pub mod TypedParts
