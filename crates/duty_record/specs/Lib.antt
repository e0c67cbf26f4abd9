pub mod Deeds
pub mod EndedTours
pub mod Tours
pub mod Json
pub mod Kept
