pub mod WordLaws
pub mod BriefLaws
pub mod Determined
pub mod Left
pub mod RunLaws
pub mod Hosts
