pub mod Walls
pub mod Becomes
pub mod Shows
pub mod OfferTold
pub mod OffersKept
pub mod Lists
pub mod Shelves
pub mod Windows
