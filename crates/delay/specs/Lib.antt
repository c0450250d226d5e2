pub mod Delay
pub mod Range
pub mod Answer
pub mod Inside
