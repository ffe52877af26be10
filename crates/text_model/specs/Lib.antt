pub mod Coords
pub mod Texts
pub mod Changes
pub mod Mapping
pub mod Laws
pub mod Examples
