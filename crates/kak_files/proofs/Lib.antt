pub mod NameLemmas
pub mod ExchangeLemmas
pub mod PieceLemmas
