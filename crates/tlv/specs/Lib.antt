pub mod Walk
pub mod Numbers
pub mod Form
pub mod Faults
pub mod Wr
