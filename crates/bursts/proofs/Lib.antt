pub mod Named
pub mod Underway
pub mod Bursts
pub mod Witnesses
pub mod Determined
