pub mod Origin
pub mod When
