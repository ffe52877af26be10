pub mod Matching
pub mod Grouping
pub mod Series
pub mod Seeking
pub mod Searching
pub mod Making
pub mod Laws
pub mod Examples
