pub mod Answers
pub mod Bands
pub mod Facts
pub mod Figures
pub mod Laws
pub mod Tables
pub mod Years
