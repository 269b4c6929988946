pub mod TableContext
pub mod Table
