pub mod EqualityLaws
pub mod FoldLaws
pub mod OrderLaws
pub mod RuleLaws
