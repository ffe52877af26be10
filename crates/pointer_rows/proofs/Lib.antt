pub mod PlaceLemmas
pub mod ExtendLemmas
pub mod ScrollLemmas
pub mod KeepingLaws
pub mod PlacesLaws
