pub mod Layout
pub mod Put
