pub mod BodyLaws
pub mod ByRankLaws
pub mod CheckLaws
pub mod EnumLists
pub mod FaultLaws
pub mod FirstLaws
pub mod KeptLaws
pub mod SettleLaws
