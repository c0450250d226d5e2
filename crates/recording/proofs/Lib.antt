pub mod Refusing
mod Witnesses
mod Determined
