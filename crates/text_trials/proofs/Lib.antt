pub mod TrialLemmas
pub mod ShelfTrialLemmas
