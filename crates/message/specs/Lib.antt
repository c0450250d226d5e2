pub mod Fields
pub mod Reading
pub mod Announced
pub mod When
pub mod Answers
pub mod Ignored
