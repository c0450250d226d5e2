pub mod Tapes
pub mod Frames
pub mod Walk
pub mod Answers
pub mod Exactly
pub mod Streamed
pub mod Fits
pub mod Replayed
mod Witnesses
mod Determined
