pub mod Heads
pub mod SpelledReply
pub mod SpelledEntry
