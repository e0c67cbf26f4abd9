mod GoneLemmas
mod FoundLemmas
