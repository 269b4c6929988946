pub mod ChainPlaces
pub mod FactsSound
mod LoadExamples
pub mod Pushing
pub mod ScriptLaws
pub mod Soundness
pub mod SumNames
