pub mod FillingLaws
pub mod WholeLaws
pub mod WorkLaws
