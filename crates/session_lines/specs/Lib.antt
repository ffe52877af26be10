pub mod Session
pub mod Stops
pub mod Serving
pub mod Sending
pub mod Reading
pub mod Connections
pub mod Examples
