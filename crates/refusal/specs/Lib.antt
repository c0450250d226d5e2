pub mod Refusal
pub mod Choice
pub mod Limits
