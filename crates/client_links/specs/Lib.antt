pub mod Wires
pub mod Doors
pub mod Sizes
pub mod Memory
pub mod MemoryDoors
pub mod Examples
