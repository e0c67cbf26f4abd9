pub mod ExcessLemmas
pub mod OffFromLemmas
pub mod RestLemmas
