pub mod RunLaws
pub mod PlaceLaws
pub mod Filling
pub mod MergeLaws
pub mod Determined
pub mod Kept
pub mod Witnesses
