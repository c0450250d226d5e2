pub mod TestLaws
pub mod Passed
pub mod Zeros
pub mod Laid
pub mod Walked
pub mod Witnesses
mod Determined
