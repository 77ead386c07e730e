pub mod Assembly
pub mod Causes
pub mod EvalCauses
pub mod Evaluation
pub mod Headline
