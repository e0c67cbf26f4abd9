pub mod FitLemmas
pub mod TableLemmas
