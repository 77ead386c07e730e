pub mod MarkingLemmas
pub mod SettleLemmas
