mod LineLemmas
pub mod FoundLemmas
pub mod OneLemmas
