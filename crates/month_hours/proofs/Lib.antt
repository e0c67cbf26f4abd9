pub mod CappedLemmas
pub mod PlanLemmas
pub mod OverLemmas
pub mod ShareLemmas
