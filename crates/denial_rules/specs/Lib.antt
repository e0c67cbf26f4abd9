pub mod Bar
pub mod Table
