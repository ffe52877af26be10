pub mod Classes
pub mod Cells
pub mod Bytes
pub mod Examples
