pub mod Playback
pub mod Streaming
pub mod Live
pub mod When
