pub mod HoldingLemmas
pub mod FollowLemmas
pub mod SizeLemmas
