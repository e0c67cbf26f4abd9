pub mod MonthSums
pub mod LastTour
pub mod During
pub mod Runs
