pub mod Craft
pub mod Quals
