pub mod Ranges
pub mod Settling
pub mod Settled
pub mod Moving
pub mod Laws
pub mod Examples
