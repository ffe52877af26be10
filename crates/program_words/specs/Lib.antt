pub mod Files
pub mod ServerWords
pub mod GenWords
pub mod FileExamples
pub mod ServerExamples
pub mod GenExamples
