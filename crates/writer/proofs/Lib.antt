pub mod Allowed
pub mod Determined
mod Witnesses
