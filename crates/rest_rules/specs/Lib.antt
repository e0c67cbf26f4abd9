pub mod Excess
pub mod OffFrom
pub mod Rest
