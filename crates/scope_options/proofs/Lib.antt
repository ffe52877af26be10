pub mod SettingLemmas
pub mod NumberLemmas
