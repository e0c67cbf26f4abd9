pub mod Course
pub mod CrewCalls
pub mod Ended
pub mod Outcomes
