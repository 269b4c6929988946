pub mod DictionaryJson
pub mod FactsText
pub mod Joining
pub mod Laws
pub mod TableTexts
