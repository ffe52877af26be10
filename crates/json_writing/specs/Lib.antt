pub mod Grows
pub mod JsonText
pub mod Drawings
pub mod Refusals
pub mod Examples
