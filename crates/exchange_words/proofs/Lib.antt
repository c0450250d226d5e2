pub mod Determined
pub mod Witnesses
