pub mod RegularLemmas
pub mod SpanLemmas
pub mod GroupLemmas
pub mod SeriesLemmas
pub mod SeekLemmas
pub mod CharLemmas
pub mod SearchLemmas
