pub mod FillingLaws
pub mod WorkLaws
