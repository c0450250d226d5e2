pub mod Laws
pub mod ReadBack
pub mod Exactly
pub mod Forms
mod Witnesses
mod Determined
