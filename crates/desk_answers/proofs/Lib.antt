pub mod ChainLemmas
mod AskedLemmas
pub mod FindLemmas
pub mod NextLemmas
