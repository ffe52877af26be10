pub mod Names
pub mod Reading
pub mod FirstKey
pub mod Printing
pub mod Examples
pub mod Modified
