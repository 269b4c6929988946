pub mod Days
pub mod Divisors
mod Nearest
mod Products
pub mod Rationals
mod Signs
mod Unique
pub mod ValueExamples
