pub mod Parts
pub mod Floors
pub mod Ranges
pub mod Determined
