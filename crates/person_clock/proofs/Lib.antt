pub mod RestLemmas
pub mod DaysLemmas
pub mod HoursLemmas
pub mod ClockLemmas
