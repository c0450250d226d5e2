pub mod Choice
pub mod Limits
pub mod Numbers
mod Witnesses
mod Determined
