pub mod LeastLemmas
pub mod SlotLemmas
pub mod EndLemmas
pub mod KeepLemmas
pub mod WordLemmas
pub mod RestLemmas
