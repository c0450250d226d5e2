pub mod Machine
pub mod States
pub mod Run
pub mod Conversation
pub mod Heeded
pub mod Loss
