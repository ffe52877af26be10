pub mod FaceLemmas
