pub mod Indices
pub mod StayingLemmas
pub mod TakingLemmas
pub mod OpeningLemmas
pub mod ServingLemmas
pub mod ReadingLemmas
pub mod ConnectionLemmas
