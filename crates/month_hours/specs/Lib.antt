pub mod Capped
pub mod Over
pub mod Shares
pub mod Plan
pub mod Steps
pub mod Used
