pub mod KeepingLaws
pub mod TypedLemmas
pub mod AcceptLemmas
pub mod WaitingLemmas
pub mod RowLaws
