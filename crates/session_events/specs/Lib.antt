pub mod Entries
pub mod Counting
pub mod Legal
pub mod Meaning
pub mod Seats
pub mod Missing
pub mod Examples
