pub mod Lists
pub mod TurnLemmas
pub mod HistoryLemmas
pub mod Ends
pub mod LineLemmas
