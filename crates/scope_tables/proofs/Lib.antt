pub mod NameLemmas
pub mod KeyLemmas
pub mod HookLemmas
pub mod RowLemmas
pub mod ChangeLemmas
