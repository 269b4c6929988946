pub mod CallsForLaws
pub mod CheckLaws
pub mod DictionaryLaws
pub mod FirstWords
pub mod LastLineLaws
pub mod LoadLaws
pub mod ResumeLaws
pub mod SaveLaws
