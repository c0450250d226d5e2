pub mod Elected
pub mod Decisions
pub mod Cards
pub mod Places
