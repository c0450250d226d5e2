pub mod Words
pub mod Reading
pub mod Answers
pub mod Writing
pub mod Fits
