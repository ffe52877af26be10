pub mod Marking
pub mod Joining
pub mod Laws
pub mod Examples
