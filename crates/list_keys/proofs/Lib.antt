pub mod FoundLemmas
pub mod LineLemmas
pub mod CutLemmas
pub mod PartLemmas
pub mod CopyLemmas
pub mod EachLemmas
pub mod RowLemmas
pub mod SplitLemmas
