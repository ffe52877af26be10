pub mod Atoms
pub mod Cells
pub mod Lines
pub mod Painting
pub mod Laws
pub mod Examples
