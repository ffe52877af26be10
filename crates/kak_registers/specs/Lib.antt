pub mod Names
pub mod Contents
pub mod Refusals
pub mod Laws
pub mod Examples
