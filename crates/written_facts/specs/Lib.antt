pub mod Figures
pub mod Forms
pub mod Options
pub mod Taking
pub mod WrittenFacts
