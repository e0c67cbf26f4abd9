pub mod Chain
pub mod ChainInside
pub mod Entry
pub mod Fits
pub mod Job
pub mod Opening
pub mod Statement
