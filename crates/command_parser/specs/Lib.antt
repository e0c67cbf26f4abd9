pub mod Word
pub mod Spelled
pub mod RecordForms
pub mod OpeningRecord
pub mod DayFile
pub mod MoreCommands
pub mod CommandRecords
pub mod CommandLine
