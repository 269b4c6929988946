pub mod Answers
pub mod Facts
pub mod Figures
pub mod Household
pub mod Laws
pub mod Tables
pub mod Years
