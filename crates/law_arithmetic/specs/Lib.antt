pub mod Ages
pub mod Bisection
pub mod Dates
pub mod Increments
pub mod Laws
pub mod Months
pub mod Multiples
pub mod Tables
