pub mod Agreement
pub mod Symmetry
pub mod ByLead
pub mod Decisions
pub mod Exactly
pub mod Determined
pub mod Witnesses
