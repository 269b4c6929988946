pub mod Desk
pub mod DeskSteps
pub mod DeskView
pub mod LastSeen
pub mod Parties
pub mod Refusals
pub mod StaleRule
