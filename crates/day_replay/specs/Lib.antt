pub mod Ends
pub mod Forecast
pub mod FromDay
pub mod Gathered
pub mod Held
pub mod Replay
