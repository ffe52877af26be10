pub mod GenLemmas
pub mod ReplayLemmas
pub mod RunLemmas
