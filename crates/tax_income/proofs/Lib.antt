pub mod Bands
pub mod Credit
pub mod IncomeDictionary
pub mod IncomeExample
pub mod IncomeLaw
pub mod IncomeLines
pub mod IncomeSource
pub mod IncomeSpells
pub mod IncomeValues
pub mod Rounding
mod ScheduleExamples
