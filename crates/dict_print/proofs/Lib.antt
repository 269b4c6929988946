pub mod JoiningLaws
pub mod NestingLaws
pub mod PrintedLaws
pub mod SpellingLaws
pub mod TableLaws
pub mod TextLaws
