pub mod Few
pub mod Packets
pub mod Writable
pub mod Exported
pub mod Exactly
pub mod Streamed
pub mod Witnesses
mod Determined
