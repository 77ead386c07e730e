pub mod MergeLemmas
pub mod JoinLemmas
mod Examples
