mod Examples
pub mod StoredLemmas
