pub mod Places
pub mod Windows
pub mod Lists
pub mod Pointing
pub mod Scrolling
pub mod Laws
pub mod Examples
