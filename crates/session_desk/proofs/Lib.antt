pub mod HistoryLemmas
pub mod SeatLemmas
pub mod RuleLemmas
pub mod TokenLemmas
pub mod StepLemmas
