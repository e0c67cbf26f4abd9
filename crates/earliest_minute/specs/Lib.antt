pub mod Least
pub mod When
