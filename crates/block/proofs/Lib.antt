pub mod SumLaws
pub mod Made
pub mod Check
pub mod Witnesses
mod Determined
