pub mod Given
pub mod Cutting
pub mod Meaning
pub mod Kept
pub mod Sound
pub mod Whole
mod Edges
mod Witnesses
