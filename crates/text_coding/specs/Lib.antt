pub mod Coding
pub mod Surveying
pub mod Parting
pub mod Laws
pub mod Examples
