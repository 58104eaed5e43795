pub mod SettingWords
pub mod ActionLines
pub mod EntryLines
pub mod StatusLines
pub mod Readings
