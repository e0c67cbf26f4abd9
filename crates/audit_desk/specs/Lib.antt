pub mod Found
pub mod Resumed
pub mod VerdictText
