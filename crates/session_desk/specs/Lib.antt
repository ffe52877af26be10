pub mod Histories
pub mod Tokens
pub mod Rule
pub mod Examples
