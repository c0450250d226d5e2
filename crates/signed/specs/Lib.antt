pub mod Floor
pub mod Limits
