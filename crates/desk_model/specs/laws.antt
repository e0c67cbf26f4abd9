pub mod Accepted
pub mod Comes
pub mod Denials
pub mod FirstEdition
pub mod Parts
pub mod Refusal
pub mod RestsOn
