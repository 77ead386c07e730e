pub mod PairCounts
mod Examples
