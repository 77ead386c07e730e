mod Examples
pub mod PairLemmas
pub mod ResourceLemmas
