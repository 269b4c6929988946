pub mod Counting
pub mod DictJson
pub mod DictParsing
pub mod Laws
pub mod Listing
pub mod TableJson
pub mod TableParsing
