pub mod Sharing
pub mod Sitting
pub mod Examples
