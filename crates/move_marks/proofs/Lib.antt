pub mod PlainLemmas
pub mod JoinLemmas
pub mod LawLemmas
pub mod MergeLemmas
pub mod MarkedLemmas
pub mod LeftLemmas
pub mod TurnLemmas
pub mod PassLemmas
