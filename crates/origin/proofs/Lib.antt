pub mod Laws
pub mod Part
pub mod Exactly
pub mod Ignored
pub mod Determined
pub mod Edges
