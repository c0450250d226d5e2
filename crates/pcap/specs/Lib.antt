pub mod Form
pub mod File
pub mod Written
pub mod When
