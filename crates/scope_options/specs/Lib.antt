pub mod Scopes
pub mod Values
pub mod Settings
pub mod Numbers
pub mod Changes
pub mod Laws
pub mod Examples
