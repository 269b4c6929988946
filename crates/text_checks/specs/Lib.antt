pub mod Checks
pub mod Places
pub mod Tables
