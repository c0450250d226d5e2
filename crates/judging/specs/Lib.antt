pub mod Tests
pub mod Walking
pub mod Records
