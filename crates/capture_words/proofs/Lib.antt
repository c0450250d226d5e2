mod Laws
pub mod Forms
mod Witnesses
mod Determined
