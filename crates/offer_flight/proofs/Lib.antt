pub mod Lookups
pub mod Edits
pub mod Maps
