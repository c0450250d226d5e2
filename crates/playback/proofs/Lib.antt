pub mod Cleared
pub mod Live
pub mod Streamed
pub mod Blocks
pub mod Exactly
pub mod Witnesses
pub mod Determined
