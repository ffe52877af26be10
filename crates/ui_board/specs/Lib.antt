pub mod Screens
pub mod Told
pub mod Notes
pub mod Boards
pub mod Laws
pub mod Examples
