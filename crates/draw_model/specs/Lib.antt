pub mod Boxes
pub mod Drawings
pub mod Examples
