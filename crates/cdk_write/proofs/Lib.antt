pub mod StandingLemmas
pub mod StepLemmas
