pub mod Device
pub mod JournalFile
pub mod MemoryDevice
pub mod NotOpened
