pub mod MinuteLemmas
pub mod RecordLemmas
pub mod ReadLemmas
pub mod FieldLemmas
pub mod FoundLemmas
mod CommaLemmas
mod PlainLemmas
