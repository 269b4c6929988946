mod GivenFits
pub mod GivenLists
