pub mod CutLaws
pub mod CutSteps
mod Examples
pub mod FirstKey
mod Instance
pub mod Overlap
pub mod Steps
