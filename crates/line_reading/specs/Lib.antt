pub mod Reading
pub mod Pieces
pub mod Examples
pub mod Hearing
