pub mod CountingLemmas
pub mod LegalLemmas
pub mod MissingLemmas
pub mod MeaningLemmas
