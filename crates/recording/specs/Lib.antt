pub mod Recording
pub mod Refusing
