pub mod Duty
pub mod History
pub mod Legal
pub mod Mark
pub mod Register
