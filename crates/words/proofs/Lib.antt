pub mod Spread
pub mod Widen
pub mod Laws
pub mod Determined
