pub mod Exporting
pub mod When
pub mod Streaming
