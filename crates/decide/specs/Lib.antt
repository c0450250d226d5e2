pub mod Comparing
pub mod Deciding
pub mod When
pub mod Leading
