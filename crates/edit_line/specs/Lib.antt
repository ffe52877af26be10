pub mod Halves
pub mod Edits
pub mod Examples
