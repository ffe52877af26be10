pub mod Rows
pub mod Wanting
pub mod Laws
pub mod Examples
pub mod PromptExamples
