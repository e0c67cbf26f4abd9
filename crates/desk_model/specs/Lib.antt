pub mod answers
pub mod boards
pub mod histories
pub mod laws
pub mod offers
pub mod statements
pub mod texts
