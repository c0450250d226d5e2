pub mod Back
pub mod Written
pub mod ReadBack
pub mod WriteBack
pub mod Answers
pub mod OneTlv
pub mod WrBack
pub mod Edges
mod Determined
