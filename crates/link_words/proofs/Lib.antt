pub mod Laws
pub mod EventLaws
pub mod Determined
pub mod Witnesses
