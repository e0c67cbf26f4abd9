pub mod Rest
pub mod Days
pub mod Hours
pub mod Clock
