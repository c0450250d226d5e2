pub mod Taped
pub mod Whole
