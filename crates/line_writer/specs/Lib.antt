pub mod Marked
pub mod Line
pub mod Tally
