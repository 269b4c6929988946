pub mod StackLaws
pub mod TimelineLaws
pub mod UndoneLaws
