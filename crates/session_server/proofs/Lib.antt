pub mod ClosedLemmas
pub mod RowLemmas
pub mod GoneLemmas
pub mod SessionLemmas
pub mod PatternsCrossing
pub mod Crossing
pub mod JobCrossing
