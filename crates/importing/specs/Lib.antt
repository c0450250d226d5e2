pub mod Importing
pub mod When
pub mod Streamed
