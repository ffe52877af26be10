pub mod WorldLemmas
pub mod PlayLemmas
pub mod SeatLemmas
pub mod RefusalLemmas
