pub mod DictionaryLaws
pub mod HeightLaws
pub mod ListLaws
pub mod MentionLaws
pub mod PassLaws
pub mod RankLaws
pub mod WalkLaws
