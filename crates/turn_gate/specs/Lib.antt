pub mod Told
pub mod Notes
pub mod Gate
pub mod Steps
pub mod Seats
pub mod Turns
