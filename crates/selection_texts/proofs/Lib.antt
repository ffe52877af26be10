pub mod ColumnLemmas
pub mod TextLemmas
pub mod ReadBackLemmas
