pub mod Parts
pub mod Tlvs
pub mod Sound
pub mod Answers
