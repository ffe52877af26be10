pub mod CutLemmas
pub mod HearingLemmas
pub mod PieceLemmas
pub mod TakenLemmas
