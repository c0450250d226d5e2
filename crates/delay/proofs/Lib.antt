pub mod Ranges
pub mod Laws
pub mod Exactly
pub mod Moved
pub mod Symmetric
pub mod Edges
pub mod Determined
