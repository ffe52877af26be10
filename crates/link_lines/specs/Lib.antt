pub mod Talks
pub mod Talking
pub mod Endings
pub mod Drawings
pub mod Examples
