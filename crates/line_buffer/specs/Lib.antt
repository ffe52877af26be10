pub mod Buffer
pub mod Taking
