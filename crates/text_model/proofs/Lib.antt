pub mod CoordLemmas
pub mod LineLemmas
pub mod PlaceLemmas
pub mod ChangeLemmas
pub mod MappingLemmas
pub mod Rules
