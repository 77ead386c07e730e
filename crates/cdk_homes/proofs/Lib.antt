pub mod ListLemmas
pub mod EntryLemmas
pub mod PairLemmas
pub mod PlaceLemmas
mod Examples
