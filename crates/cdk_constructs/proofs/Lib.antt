pub mod BodyLemmas
pub mod ConstructLemmas
