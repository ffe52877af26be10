pub mod Lines
pub mod Histories
pub mod Turns
pub mod Growth
pub mod Headline
pub mod Examples
