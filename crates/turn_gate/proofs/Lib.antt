pub mod Totals
pub mod Notes
pub mod Keeps
pub mod Dealing
pub mod Turns
pub mod Closing
