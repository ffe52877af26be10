pub mod LostLemmas
pub mod TalkLemmas
pub mod HeardLemmas
pub mod ComingLemmas
pub mod EndLemmas
pub mod LaterLemmas
pub mod DrawingLemmas
