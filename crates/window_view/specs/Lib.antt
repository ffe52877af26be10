pub mod View
pub mod Sizes
pub mod Views
pub mod Least
pub mod Holding
pub mod Examples
