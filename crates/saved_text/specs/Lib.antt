pub mod CarriedParsing
pub mod CarriedText
pub mod Cursors
pub mod EntryKeys
pub mod Parsing
pub mod Refused
pub mod SavedText
pub mod Writing
