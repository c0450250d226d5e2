pub mod Order
pub mod Best
pub mod Ranked
pub mod Calls
pub mod When
