pub mod Days
pub mod Run
pub mod Steps
