pub mod Texts
pub mod Makings
pub mod Courses
pub mod Examples
pub mod Laws
