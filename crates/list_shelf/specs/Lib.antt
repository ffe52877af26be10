pub mod Lagging
pub mod Shelves
pub mod Laws
pub mod Examples
