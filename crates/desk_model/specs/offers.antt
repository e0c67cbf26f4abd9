pub mod Assigned
pub mod Bars
pub mod Held
pub mod Offers
pub mod States
pub mod TurnedDown
