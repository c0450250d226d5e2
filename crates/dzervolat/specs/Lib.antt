pub mod Settings
pub mod Ranking
pub mod Writing
