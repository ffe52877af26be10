pub mod Colours
pub mod Faces
pub mod Standard
pub mod Same
pub mod Examples
