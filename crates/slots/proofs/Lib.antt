pub mod Laws
pub mod Cases
pub mod Places
pub mod Meaning
pub mod Order
pub mod Window
pub mod Begins
pub mod Determined
