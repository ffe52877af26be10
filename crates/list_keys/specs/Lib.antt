pub mod Cuts
pub mod Splitting
pub mod Copies
pub mod Rows
pub mod Changes
pub mod Examples
