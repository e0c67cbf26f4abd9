pub mod Flight
pub mod Kept
