pub mod Boards
pub mod Marks
pub mod Rank
