mod ContextLemmas
mod Examples
pub mod Seen
