pub mod Slots
pub mod Search
pub mod Nodes
pub mod Words
pub mod Rest
