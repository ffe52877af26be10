pub mod Draws
pub mod Summary
pub mod Examples
