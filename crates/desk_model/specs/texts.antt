pub mod BarTexts
pub mod Journal
pub mod ReplyTexts
pub mod StatedTexts
