pub mod PauseLemmas
