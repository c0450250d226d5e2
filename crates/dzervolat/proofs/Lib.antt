pub mod Left
pub mod Refused
pub mod Ignored
pub mod Determined
