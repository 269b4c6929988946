pub mod FirstLaws
pub mod PlaceLaws
pub mod RuleLaws
pub mod UseLaws
