pub mod Methods
pub mod Requests
pub mod Parameters
pub mod NumberExamples
pub mod RequestExamples
