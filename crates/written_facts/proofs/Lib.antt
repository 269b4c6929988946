pub mod FormViews
pub mod Taken
