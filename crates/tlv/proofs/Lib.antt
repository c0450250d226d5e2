pub mod WalkLaws
pub mod Reached
pub mod FormLaws
pub mod FaultLaws
mod Determined
mod Witnesses
