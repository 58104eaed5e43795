pub mod LineFronts
pub mod SettingLemmas
pub mod EntryLemmas
pub mod RecordLemmas
