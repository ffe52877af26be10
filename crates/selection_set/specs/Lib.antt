pub mod Inside
pub mod Listing
pub mod Held
pub mod Sweeping
pub mod Numbering
pub mod Examples
