pub mod Bytes
pub mod Parts
pub mod PlainLemmas
pub mod SameFaces
