pub mod RunLemmas
pub mod LineRunLemmas
pub mod LineOfLemmas
pub mod InsideLemmas
pub mod PairLemmas
pub mod BracketLemmas
pub mod QuoteLemmas
pub mod SentenceLemmas
