pub mod BoardLemmas
pub mod ReportLemmas
pub mod ScreenLemmas
pub mod ToldLemmas
