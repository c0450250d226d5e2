pub mod Candidates
pub mod Fits
pub mod Answers
pub mod Runs
pub mod Places
