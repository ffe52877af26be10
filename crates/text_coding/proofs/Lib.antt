pub mod FormLemmas
pub mod FillLemmas
pub mod ReturnLemmas
pub mod LoadLemmas
pub mod SaveLemmas
pub mod InverseLemmas
pub mod LineLemmas
