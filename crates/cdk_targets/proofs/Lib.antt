pub mod RefusedLemmas
