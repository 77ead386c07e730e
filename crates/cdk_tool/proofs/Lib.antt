pub mod AssemblyLemmas
pub mod CauseLemmas
pub mod EvalLemmas
pub mod HeadlineLemmas
pub mod InputLemmas
pub mod ManifestLemmas
pub mod StepsLemmas
