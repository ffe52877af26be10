pub mod CursorLemmas
pub mod ModeLemmas
pub mod PromptLemmas
pub mod StatusLemmas
pub mod BoxLemmas
pub mod LooksLemmas
