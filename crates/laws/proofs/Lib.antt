pub mod Bools
pub mod Fixes
