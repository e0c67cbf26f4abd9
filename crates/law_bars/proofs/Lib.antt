pub mod LawLemmas
pub mod RangeLemmas
