pub mod Arguments
pub mod ConditionLemmas
pub mod FormLemmas
pub mod Reading
