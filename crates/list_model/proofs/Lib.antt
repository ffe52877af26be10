pub mod SweepLemmas
pub mod ListLemmas
pub mod SettledLemmas
pub mod SortLemmas
pub mod UniqueLemmas
pub mod MoveLemmas
pub mod EmbedLemmas
pub mod ReorderLemmas
