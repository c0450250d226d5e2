pub mod StepLaws
pub mod RunLaws
pub mod Conversation
pub mod Determined
pub mod Witnesses
pub mod Heeded
pub mod Loss
