pub mod RunLemmas
pub mod HomeLemmas
pub mod DaysLemmas
pub mod StartLemmas
