pub mod CursorLemmas
pub mod SliceLemmas
pub mod NumberLemmas
pub mod SettleLemmas
pub mod OrderLemmas
pub mod PairLemmas
pub mod HeldLemmas
pub mod InOrderLemmas
