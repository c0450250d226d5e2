pub mod SoundLaws
pub mod Exactly
pub mod Ignored
pub mod Witnesses
pub mod Part
pub mod TlvLaws
pub mod Cut
mod Determined
