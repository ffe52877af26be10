pub mod PathLemmas
pub mod RowLemmas
pub mod OverLemmas
pub mod WalkLemmas
pub mod PaintLemmas
pub mod NumberLemmas
