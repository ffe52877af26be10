pub mod ReadingLemmas
pub mod PrintingLemmas
pub mod RoundTrip
pub mod SpelledKeys
