pub mod People
pub mod Touched
pub mod Unfilled
pub mod KeptDesk
pub mod Candidates
pub mod Search
pub mod Core
pub mod Question
