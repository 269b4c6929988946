pub mod FiringLaws
pub mod TableLaws
