pub mod Files
pub mod Exchanges
pub mod Memory
pub mod MemoryShelf
pub mod Examples
pub mod Laws
