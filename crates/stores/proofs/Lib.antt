pub mod Buffer
pub mod Spread
pub mod Determined
