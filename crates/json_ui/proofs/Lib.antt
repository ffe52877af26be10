pub mod ParameterLemmas
pub mod Sizes
