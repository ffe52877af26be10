pub mod WordLemmas
pub mod LetterLemmas
pub mod ChainLemmas
pub mod CoverLemmas
pub mod NameLemmas
pub mod CycleLemmas
