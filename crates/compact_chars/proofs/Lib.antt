pub mod TurnLemmas
pub mod EncodingLemmas
