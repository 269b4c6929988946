pub mod DictionaryLaws
pub mod Graph
pub mod Laws
pub mod MentionGraph
pub mod Order
pub mod Ranking
pub mod Ranks
pub mod Walking
