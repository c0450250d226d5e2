pub mod Buffer
pub mod Determined
mod Witnesses
