pub mod Carrying
pub mod Dropped
pub mod Keeping
pub mod Loading
pub mod OwnLines
pub mod Resuming
pub mod SavedLines
pub mod WhoseText
