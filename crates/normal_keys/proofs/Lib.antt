pub mod RunLemmas
pub mod FewLemmas
pub mod KeepingLaws
pub mod RowLaws
pub mod StruckLemmas
