pub mod Ports
pub mod Plans
pub mod Memory
