pub mod EndsLemmas
pub mod ForecastLemmas
pub mod HistoryLemmas
pub mod InputLemmas
pub mod JournalLemmas
pub mod ReplayLemmas
