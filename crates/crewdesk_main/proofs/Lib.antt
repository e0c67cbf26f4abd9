pub mod ContinueLemmas
pub mod FormLemmas
pub mod LineLemmas
pub mod LinesEndLemmas
pub mod NumberLemmas
pub mod OneJournalLemmas
pub mod PartLemmas
pub mod PlusLemmas
pub mod TourLemmas
mod NameLemmas
