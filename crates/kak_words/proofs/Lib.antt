pub mod ClosingLemmas
pub mod PieceLemmas
pub mod ReadingLemmas
pub mod ExpandingLemmas
pub mod QuotingLemmas
