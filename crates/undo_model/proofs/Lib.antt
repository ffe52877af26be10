pub mod StepLemmas
pub mod TreeLemmas
pub mod WayLemmas
pub mod StoryLemmas
pub mod EditLemmas
pub mod MarkLemmas
pub mod MoveLemmas
