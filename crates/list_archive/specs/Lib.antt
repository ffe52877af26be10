pub mod Trails
pub mod Limits
pub mod Kept
pub mod Archives
pub mod Laws
pub mod Examples
