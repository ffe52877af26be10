pub mod Rows
pub mod Sessions
pub mod Hosting
pub mod Running
pub mod Examples
pub mod RowExamples
