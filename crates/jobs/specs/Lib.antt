pub mod Starts
pub mod Plans
pub mod Meets
pub mod Threads
pub mod Running
pub mod Examples
